-- The record's count and the lists of `child_lists::child_list` are of one list.
-- Assumes nothing.
use mathlib.Core.Path.{◌≡◌, refl}
use mathlib.Core.List.{List, [], ◌∷◌}
use Prim.Native.Nat.{ℕ, zero, suc, ◌≤◌, ◌<◌}
use native.Mathlib.Omega.{arith}
use lib.ListN.{length, get_or}
use Rattle.refusal.specs.Answer.{given, absent}
use Rattle.tlv.specs.Entries.{Entry, entry}
use Rattle.refusal.specs.Numbered.{nth}
use Rattle.diag_entries.specs.Checked.{checked}
use Rattle.diag_entries.specs.Lists.{address_list, address_lists, child_list}
use Rattle.diag.specs.Diag.{diag}

nth_within : {A : Type 0} (l : List A) (k : ℕ) (z : A) → k < length l → nth l k ≡ given (get_or l k z)
unfolding nth
nth_within [] k z h = absurd (omega arith)
nth_within (x ∷ l) zero z h = refl
nth_within (x ∷ l) (suc k) z h = nth_within l k z (omega arith)

nth_after : {A : Type 0} (l : List A) (k : ℕ) → length l ≤ k → nth l k ≡ absent
unfolding nth
nth_after [] k h = refl
nth_after (x ∷ l) zero h = absurd (omega arith)
nth_after (x ∷ l) (suc k) h = nth_after l k (omega arith)

module _ (s : List ℕ) (es : List Entry) (fine : checked s ≡ given es) (k : ℕ) where
  pub lists_are : k < (diag es).child_lists → child_list k s ≡ given (get_or (address_lists es) k (address_list (entry 0 0 0 [])))
  unfolding child_list diag
  lists_are h = rw fine (nth_within (address_lists es) k _ h)

  pub lists_end : (diag es).child_lists ≤ k → child_list k s ≡ absent
  unfolding child_list diag
  lists_end h = rw fine (nth_after (address_lists es) k h)
