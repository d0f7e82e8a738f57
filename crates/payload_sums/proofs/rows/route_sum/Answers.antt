-- `payload_sums::rows::route_sum` meets its contract.
use mathlib.Core.Path.{refl}
use Rattle.value_sums.proofs.Adds.{adds}
use Rattle.payload_sums.specs.Rows.{route_sum}
use Rattle.payload_sums.proofs.rows.route_sum.Goals as goal

pub returns : goal.returns
unfolding route_sum
returns c =
    let n1 = adds c.plus-n.ensures refl refl in
    let n2 = adds c.plus-n-2.ensures n1 refl in
    let n3 = adds c.plus-n-3.ensures n2 refl in
    adds c.plus.ensures n3 refl
