-- `dataset_parts::channel_mask_value` meets its contract: the mask that is found is a part of the input.
use native.Mathlib.Omega.{arith}
use native.Mathlib.Nat.{add-sub_cancel_left}
use Rattle.dataset_parts.proofs.Keeps.{mask_part, mask_none, mask_told, none_absent, none_refused}
use Rattle.dataset_parts.proofs.channel_mask_value.Goals as goal

pub overflow_add-result : goal.overflow_add-result
overflow_add-result c = omega (arith, mask_part _ _ _ _ _ (rw c.in-Ok-Some.field-0-is at c.in-Ok-Some.ensures))

pub slice_bounds-result-end : goal.slice_bounds-result-end
slice_bounds-result-end c = omega (arith, mask_part _ _ _ _ _ (rw c.in-Ok-Some.field-0-is at c.in-Ok-Some.ensures))

pub returns-in-Ok-Some : goal.returns-in-Ok-Some
returns-in-Ok-Some c = simp add-sub_cancel_left (mask_part _ _ _ _ _ (rw c.in-Ok-Some.field-0-is at c.in-Ok-Some.ensures)).1

pub returns-in-Ok-None : goal.returns-in-Ok-None
returns-in-Ok-None c = none_absent _ (mask_none _ (rw c.in-Ok-None.field-0-is at c.in-Ok-None.ensures))

pub returns-in-Err : goal.returns-in-Err
returns-in-Err c = none_refused _ _ _ _ (mask_told _ _ _ _ c.in-Err.ensures)
