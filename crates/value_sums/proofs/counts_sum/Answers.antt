-- `value_sums::counts_sum` meets its contract.
use Rattle.value_sums.proofs.Adds.{adds}
use Rattle.std.proofs.Common.{refl}
use Rattle.value_sums.proofs.counts_sum.Goals as goal

pub returns : goal.returns
returns c =
    let n1 = adds c.plus-a.ensures refl refl in
    let n2 = adds c.plus-b.ensures n1 refl in
    adds c.plus.ensures n2 refl
