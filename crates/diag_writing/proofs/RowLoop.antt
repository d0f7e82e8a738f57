-- A loop that stores rows one after the other, in an output that has room for them: what holds after i of them.
-- Assumes nothing.
use mathlib.Core.Path.{◌≡◌, refl, sym, ap, ◌∙◌}
use mathlib.Core.List.{List, [], ◌∷◌, ◌++◌}
use Prim.Native.Nat.{ℕ, zero, suc, ◌+◌, ◌-◌, ◌≤◌, ◌<◌}
use native.Mathlib.Omega.{arith}
use native.Mathlib.Numerals.{add-one}
use lib.ListN.{length, get_or, drop, length-append}
use lib.Seq.{drop-cons}
use Rattle.refusal.specs.Every.{Every}
use Rattle.refusal.specs.Output.{put}
use Rattle.refusal.specs.Each.{joined}
use Rattle.laws.proofs.Puts.{put_none, put_length, put_then}

-- what holds of each row holds of row i
pub every_at : {A : Type 0} (P : A → Type 0) (l : List A) (i : ℕ) (d : A) → i < length l → Every P l → P (get_or l i d)
every_at P [] i d h v = absurd (omega arith)
every_at P (x ∷ l) zero d h v = v.0
every_at P (x ∷ l) (suc i) d h v = every_at P l i d (omega arith) v.1

-- past the last row none is left
pub none_left : {A : Type 0} (T : List A) (i : ℕ) → length T ≤ i → drop i T ≡ []
none_left [] zero h = refl
none_left [] (suc i) h = refl
none_left (x ∷ T) zero h = absurd (omega arith)
none_left (x ∷ T) (suc i) h = none_left T i (omega arith)

module _ {A : Type 0} (enc : A → List ℕ) (T : List A) (at : ℕ) (o : List ℕ) where
  -- the rows that are left, stored from here on, make of the output what all of them make of it
  abbrev pub RowInv : (i d : ℕ) (p : List ℕ) → Type 0
  RowInv i d p =
      (d + length (joined enc (drop i T)) ≡ at + length (joined enc T)) × (put p d (joined enc (drop i T)) ≡ put o at (joined enc T)) × (length p ≡ length o)

  pub rows_start : RowInv 0 at o
  rows_start = (refl, refl, refl)

  pub rows_done : (i : ℕ) → length T ≤ i → (d : ℕ) (p : List ℕ) → RowInv i d p → (d ≡ at + length (joined enc T)) × (p ≡ put o at (joined enc T))
  unfolding joined
  rows_done i k d p h =
      let none : joined enc (drop i T) ≡ [] = ap (joined enc) (none_left T i k) in
      (omega (arith, h.0, ap length none), sym (put_none p d) ∙ ap (put p d) (sym none) ∙ h.1)

  module _ (none : A) (i : ℕ) (more : i < length T) (d : ℕ) (p : List ℕ) (h : RowInv i d p) where
    abbrev row : List ℕ
    row = enc (get_or T i none)

    abbrev later : List ℕ
    later = joined enc (drop (i + 1) T)

    rows_more : joined enc (drop i T) ≡ row ++ later
    unfolding joined
    rows_more = rw (add-one i, drop-cons T i none more)

    rows_length : d + (length row + length later) ≡ at + length (joined enc T)
    rows_length = ap (◌+◌ d) (sym (length-append row later) ∙ ap length (sym rows_more)) ∙ h.0

    pub rows_need : at + length (joined enc T) ≤ length o → d + length row ≤ length p
    rows_need room = omega (arith, rows_length, h.2)

    pub rows_turn : (d' : ℕ) (p' : List ℕ) → d' ≡ d + length row → p' ≡ put p d row → RowInv (i + 1) d' p'
    rows_turn d' p' e l =
        (omega (arith, rows_length), put_then p p' d d' row later l e ∙ ap (put p d) (sym rows_more) ∙ h.1, ap length l ∙ put_length p d row ∙ h.2)
