-- `payload_sums::rows::routes_sum` meets its contract. The invariant: what is summed so far is the sum of k rows.
use mathlib.Core.Path.{◌≡◌}
use lib.ListN.{get_or}
use Rattle.payload_sums.specs.Rows.{summed, route_sum}
use Rattle.route64.specs.Routes.{route_row}
use Rattle.payload_sums.proofs.rows.routes_sum.Given as goal

abbrev pub invariant-loop-k : goal.invariant-loop-k
invariant-loop-k l = l.n ≡ summed (λ i. route_sum (get_or l.rows i (route_row 0 0))) l.k
