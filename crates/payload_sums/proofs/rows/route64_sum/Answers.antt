-- `payload_sums::rows::route64_sum` meets its contract.
use mathlib.Core.Path.{refl}
use Rattle.value_sums.proofs.Adds.{adds}
use Rattle.payload_sums.specs.Rows.{route64_sum}
use Rattle.payload_sums.proofs.rows.route64_sum.Goals as goal

pub routes_sum-requires : goal.routes_sum-requires
routes_sum-requires c = c.requires

pub returns : goal.returns
unfolding route64_sum
returns c =
    let n1 = adds c.plus.ensures refl c.from.ensures in
    let n2 = adds c.plus-n.ensures n1 c.mask_sum.ensures in
    adds c.plus-2.ensures n2 c.routes_sum.ensures
