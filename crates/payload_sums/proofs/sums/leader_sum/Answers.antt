-- `payload_sums::sums::leader_sum` meets its contract.
use Rattle.value_sums.proofs.Adds.{adds}
use mathlib.Core.Path.{refl}
use Rattle.payload_sums.proofs.sums.leader_sum.Goals as goal

pub returns : goal.returns
returns c =
    let n1 = adds c.plus-n.ensures refl refl in
    let n2 = adds c.plus-n-2.ensures n1 refl in
    let n3 = adds c.plus-n-3.ensures n2 refl in
    let n4 = adds c.plus-n-4.ensures n3 refl in
    adds c.plus.ensures n4 refl
