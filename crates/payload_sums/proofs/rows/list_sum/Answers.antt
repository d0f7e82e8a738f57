-- `payload_sums::rows::list_sum` meets its contract.
use mathlib.Core.Path.{refl, ap, ◌∙◌}
use native.Mathlib.Omega.{arith}
use native.Mathlib.Nat.{add-sub_cancel_left}
use Rattle.payload_sums.specs.Sums.{or_zero}
use Rattle.payload_sums.specs.Rows.{list_sum}
use Rattle.value_sums.proofs.Adds.{adds}
use Rattle.payload_sums.proofs.Rowed.{list_inside}
use Rattle.payload_sums.proofs.rows.list_sum.Goals as goal

pub overflow_add-x : goal.overflow_add-x
overflow_add-x c = omega (arith, list_inside _ _ c.in-Ok.ensures)

pub slice_bounds-addresses_sum-end : goal.slice_bounds-addresses_sum-end
slice_bounds-addresses_sum-end c = omega (arith, list_inside _ _ c.in-Ok.ensures)

pub returns-in-Ok : goal.returns-in-Ok
unfolding list_sum
returns-in-Ok c =
    let said = simp add-sub_cancel_left at c.addresses_sum.ensures in
    let n1 = adds c.plus.ensures refl c.from.ensures in
    let n2 = adds c.plus-n.ensures n1 c.from-in-Ok.ensures in
    adds c.plus-in-Ok.ensures n2 said ∙ ap (or_zero (list_sum _)) c.in-Ok.ensures

pub returns-in-Err : goal.returns-in-Err
returns-in-Err c = ap (or_zero (list_sum _)) c.in-Err.ensures
