-- `dataset_parts::network_name` meets its contract, by what `last_entry` and then `check_name` answered.
use mathlib.Core.Path.{ap, ◌∙◌}
use native.Mathlib.Omega.{arith}
use native.Mathlib.Nat.{add-sub_cancel_left}
use Rattle.refusal.specs.Results.{found_of}
use Rattle.refusal.proofs.Papers.{passes}
use Rattle.dataset.proofs.Finds.{found_inside}
use Rattle.dataset_parts.proofs.Keeps.{name_kept, name_refused, no_name, no_name_of}
use Rattle.dataset_parts.proofs.network_name.Goals as goal

pub returns-in_err-spot : goal.returns-in_err-spot
returns-in_err-spot c = ap found_of (passes _ _ c.from_residual.ensures.1) ∙ no_name_of _ _ _ _ c.in_err-spot.ensures

pub overflow_add-spot : goal.overflow_add-spot
overflow_add-spot c = omega (arith, found_inside _ _ _ _ _ (rw c.in-Some.is at c.in_ok-spot.ensures))

pub slice_bounds-check_name-end : goal.slice_bounds-check_name-end
slice_bounds-check_name-end c = omega (arith, found_inside _ _ _ _ _ (rw c.in-Some.is at c.in_ok-spot.ensures))

pub returns-in_err-check_name-in-Some : goal.returns-in_err-check_name-in-Some
returns-in_err-check_name-in-Some c =
    ap found_of (passes _ _ c.from_residual-in_err-check_name-in-Some.ensures.1)
    ∙ name_refused _ _ _ _ (rw c.in-Some.is at c.in_ok-spot.ensures) _ _ _ (simp add-sub_cancel_left at c.in_err-check_name-in-Some.ensures)

pub returns-in_ok-check_name-in-Some : goal.returns-in_ok-check_name-in-Some
returns-in_ok-check_name-in-Some c =
    name_kept _ _ _ _ (rw c.in-Some.is at c.in_ok-spot.ensures) (simp add-sub_cancel_left at c.in_ok-check_name-in-Some.ensures)

pub returns-in-None : goal.returns-in-None
returns-in-None c = no_name _ (rw c.in-None.is at c.in_ok-spot.ensures)
