-- `payload_sums::rows::mask_sum` meets its contract.
use mathlib.Core.Path.{refl}
use native.Mathlib.Omega.{arith}
use Rattle.payload_sums.specs.Rows.{summed}
use Rattle.payload_sums.proofs.Rowed.{summed_more, summed_done}
use Rattle.payload_sums.proofs.rows.mask_sum.Goals as goal

pub loop-b-init : goal.loop-b-init
unfolding summed
loop-b-init c = refl

pub loop-b-preserved : goal.loop-b-preserved
loop-b-preserved c = summed_more _ _ _ _ _ c.loop-b.invariant c.plus-n.ensures c.from.ensures

pub returns : goal.returns
returns c = summed_done _ _ _ _ c.loop-b.invariant (omega arith)
