-- `value_sums::mode_sum` meets its contract.
use Rattle.value_sums.proofs.Adds.{adds}
use Rattle.std.proofs.Common.{refl}
use Rattle.value_sums.proofs.mode_sum.Goals as goal

pub returns : goal.returns
returns c =
    let n1 = adds c.plus-a.ensures refl c.flag.ensures in
    let n2 = adds c.plus-b.ensures n1 c.flag-2.ensures in
    adds c.plus.ensures n2 c.flag-3.ensures
