-- `payload_sums::rows::mask_sum` meets its contract. The invariant: what is summed so far is the sum of as many bytes as were passed.
use mathlib.Core.Path.{◌≡◌}
use lib.ListN.{get_or}
use Rattle.payload_sums.specs.Rows.{summed}
use Rattle.payload_sums.proofs.rows.mask_sum.Given as goal

abbrev pub invariant-loop-b : goal.invariant-loop-b
invariant-loop-b l = l.n ≡ summed (λ i. get_or l.fn.mask i 0) l.b-index
