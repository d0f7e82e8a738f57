-- `dataset_index::last_value` meets its contract: what `last_entry` found lies within the dataset. Assumes nothing.
use mathlib.Core.Path.{◌≡◌}
use Prim.Native.Nat.{ℕ}
use native.Mathlib.Omega.{arith}
use native.Mathlib.Nat.{add-sub_cancel_left}
use Rattle.dataset_index.proofs.Queries.{value_inside, value_part, value_none}
use Rattle.dataset_index.proofs.last_value.Goals as goal

pub overflow_add-result : goal.overflow_add-result
overflow_add-result c = omega (arith, value_inside _ _ _ _ _ _ (rw c.in-Ok-Some.field-0-is at c.in-Ok-Some.ensures))

pub slice_bounds-result-end : goal.slice_bounds-result-end
slice_bounds-result-end c = omega (arith, value_inside _ _ _ _ _ _ (rw c.in-Ok-Some.field-0-is at c.in-Ok-Some.ensures))

pub returns-in-Ok-Some : goal.returns-in-Ok-Some
returns-in-Ok-Some c = simp add-sub_cancel_left (value_part _ _ _ _ _ _ (rw c.in-Ok-Some.field-0-is at c.in-Ok-Some.ensures))

pub returns-in-Ok-None : goal.returns-in-Ok-None
returns-in-Ok-None c = value_none _ _ _ _ (rw c.in-Ok-None.field-0-is at c.in-Ok-None.ensures) (λ e k. let z : ◌≡◌ {A = ℕ} 0 1 = cc in omega arith)

pub returns-in-Err : goal.returns-in-Err
returns-in-Err c = value_none _ _ _ _ c.in-Err.ensures (λ e k. let z : ◌≡◌ {A = ℕ} 0 1 = cc in omega arith)
