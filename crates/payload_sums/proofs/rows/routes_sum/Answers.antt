-- `payload_sums::rows::routes_sum` meets its contract.
use mathlib.Core.Path.{refl, ◌∙◌}
use native.Mathlib.Omega.{arith}
use Rattle.payload_sums.specs.Rows.{summed}
use Rattle.payload_sums.proofs.Rowed.{summed_more, summed_done}
use Rattle.payload_sums.proofs.rows.routes_sum.Goals as goal

pub loop-k-init : goal.loop-k-init
unfolding summed
loop-k-init c = refl

pub loop-k-preserved : goal.loop-k-preserved
loop-k-preserved c = summed_more _ _ _ _ _ c.loop-k.invariant c.plus-n.ensures c.route_sum.ensures

pub returns : goal.returns
returns c = summed_done _ _ _ _ c.loop-k.invariant (omega arith) ∙ c.requires.1
