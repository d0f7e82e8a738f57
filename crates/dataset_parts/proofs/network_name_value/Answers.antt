-- `dataset_parts::network_name_value` meets its contract: the name that is found is a part of the input.
use native.Mathlib.Omega.{arith}
use native.Mathlib.Nat.{add-sub_cancel_left}
use Rattle.dataset_parts.proofs.Keeps.{name_part}
use Rattle.dataset_parts.proofs.network_name_value.Goals as goal

pub overflow_add-result : goal.overflow_add-result
overflow_add-result c = omega (arith, name_part _ _ _ _ (rw c.in-Ok-Some.field-0-is at c.in-Ok-Some.ensures))

pub slice_bounds-result-end : goal.slice_bounds-result-end
slice_bounds-result-end c = omega (arith, name_part _ _ _ _ (rw c.in-Ok-Some.field-0-is at c.in-Ok-Some.ensures))

pub returns-in-Ok-Some : goal.returns-in-Ok-Some
returns-in-Ok-Some c = simp add-sub_cancel_left (name_part _ _ _ _ (rw c.in-Ok-Some.field-0-is at c.in-Ok-Some.ensures)).1
