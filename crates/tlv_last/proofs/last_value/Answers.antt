-- `tlv_last::last_value` meets its contract: what `last_entry` found lies within the input.
use mathlib.Core.Path.{◌≡◌, sym}
use Prim.Native.Nat.{ℕ}
use native.Mathlib.Omega.{arith}
use native.Mathlib.Nat.{add-sub_cancel_left}
use Rattle.tlv_last.proofs.Lasts.{spot_part, spot_none}
use Rattle.tlv_last.proofs.last_value.Goals as goal

pub overflow_add-result : goal.overflow_add-result
overflow_add-result c = omega (arith, spot_part _ _ _ _ _ (rw c.in-Ok-Some.field-0-is at c.in-Ok-Some.ensures))

pub slice_bounds-result-end : goal.slice_bounds-result-end
slice_bounds-result-end c = omega (arith, spot_part _ _ _ _ _ (rw c.in-Ok-Some.field-0-is at c.in-Ok-Some.ensures))

pub returns-in-Ok-Some : goal.returns-in-Ok-Some
returns-in-Ok-Some c =
    simp add-sub_cancel_left (spot_part _ _ _ _ _ (rw c.in-Ok-Some.field-0-is at c.in-Ok-Some.ensures)).1

pub returns-in-Ok-None : goal.returns-in-Ok-None
returns-in-Ok-None c = sym (spot_none _ _ _ (rw c.in-Ok-None.field-0-is at c.in-Ok-None.ensures) (λ e k. let z : ◌≡◌ {A = ℕ} 0 1 = cc in omega arith))

pub returns-in-Err : goal.returns-in-Err
returns-in-Err c = sym (spot_none _ _ _ c.in-Err.ensures (λ e k. let z : ◌≡◌ {A = ℕ} 0 1 = cc in omega arith))
