-- `payload_sums::rows::children_sum` meets its contract. The invariant: what is summed so far is the sum of k rows.
use mathlib.Core.Path.{◌≡◌}
use Rattle.payload_sums.specs.Rows.{summed, child_at}
use Rattle.payload_sums.proofs.rows.children_sum.Given as goal

abbrev pub invariant-loop-k : goal.invariant-loop-k
invariant-loop-k l = l.n ≡ summed (child_at l.v) l.k
