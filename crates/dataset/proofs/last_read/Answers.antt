-- `dataset::last_read` meets its contract, by what `last_entry` answered.
use mathlib.Core.Path.{refl, ap}
use native.Mathlib.Omega.{arith}
use native.Mathlib.Nat.{add-sub_cancel_left}
use Rattle.refusal.specs.Results.{found_of}
use Rattle.refusal.proofs.Papers.{passes}
use Rattle.dataset.proofs.Finds.{found_inside, reads_at, none_found, refused_found}
use Rattle.dataset.proofs.last_read.Goals as goal

pub returns-in_err-place : goal.returns-in_err-place
returns-in_err-place g c = rw (refused_found _ _ _ _ _ c.in_err-place.ensures) (ap found_of (passes _ _ c.from_residual.ensures.1))

pub overflow_add-start : goal.overflow_add-start
overflow_add-start g c = omega (arith, found_inside _ _ _ _ _ (rw c.in-Some.is at c.in_ok-place.ensures))

pub slice_bounds-read-end : goal.slice_bounds-read-end
slice_bounds-read-end g c = omega (arith, found_inside _ _ _ _ _ (rw c.in-Some.is at c.in_ok-place.ensures))

pub returns-in_err-read-in-Some : goal.returns-in_err-read-in-Some
returns-in_err-read-in-Some g c =
    reads_at _ _ _ _ _ _ _ (rw c.in-Some.is at c.in_ok-place.ensures) _ _ _ c.in_err-read-in-Some.ensures (grind arith) (simp add-sub_cancel_left)
    (ap found_of (passes _ _ c.from_residual-in_err-read-in-Some.ensures.1))

pub returns-in-Some : goal.returns-in-Some
returns-in-Some g c =
    reads_at _ _ _ _ _ _ _ (rw c.in-Some.is at c.in_ok-place.ensures) _ _ _ c.in_ok-read-in-Some.ensures (grind arith) (simp add-sub_cancel_left) refl

pub returns : goal.returns
returns g c = rw (none_found _ _ (rw c.in-None.is at c.in_ok-place.ensures)) refl
