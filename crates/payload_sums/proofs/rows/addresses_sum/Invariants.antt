-- `payload_sums::rows::addresses_sum` meets its contract. The invariant: what is summed so far is the sum of k addresses.
use mathlib.Core.Path.{◌≡◌}
use Rattle.payload_sums.specs.Rows.{summed, address_at}
use Rattle.payload_sums.proofs.rows.addresses_sum.Given as goal

abbrev pub invariant-loop-k : goal.invariant-loop-k
invariant-loop-k l = l.n ≡ summed (address_at l.v) l.k
