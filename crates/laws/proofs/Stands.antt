-- A list that stands in another from a place on, element by element: what is read there is what was written.
-- Assumes nothing.
use mathlib.Core.Path.{◌≡◌, ap, ◌∙◌}
use mathlib.Core.List.{List, ◌∷◌, ◌++◌}
use Prim.Native.Nat.{ℕ, suc, ◌+◌, ◌≤◌, ◌<◌}
use native.Mathlib.Omega.{arith}
use native.Mathlib.Nat.{zero-add}
use lib.ListN.{length, get_or, take, drop, length-append, get_or-append}
use lib.Seq.{get_or-append-add, get_or-take, get_or-drop, ext_get_or}
use Rattle.laws.proofs.Parts.{length_part}

abbrev pub Stands : List ℕ → ℕ → List ℕ → Type 0
Stands s at l = (i : ℕ) → i < length l → get_or s (at + i) 0 ≡ get_or l i 0

pub stands_whole : (s : List ℕ) → Stands s 0 s
stands_whole s i h = rw zero-add

module _ (s : List ℕ) (at : ℕ) where
  pub stands_front : (a b : List ℕ) → Stands s at (a ++ b) → Stands s at a
  stands_front a b h i l = h i (omega (arith, length-append a b)) ∙ get_or-append a b 0 i l

  pub stands_back : (a b : List ℕ) (next : ℕ) → next ≡ at + length a → Stands s at (a ++ b) → Stands s next b
  stands_back a b next e h i l =
      let k : next + i ≡ at + (length a + i) = omega arith in
      ap (λ (n : ℕ). get_or s n 0) k ∙ h (length a + i) (omega (arith, length-append a b)) ∙ get_or-append-add a b i 0

  pub stands_first : (x : ℕ) (l : List ℕ) → Stands s at (x ∷ l) → get_or s at 0 ≡ x
  stands_first x l h = let k : at ≡ at + 0 = omega arith in ap (λ (n : ℕ). get_or s n 0) k ∙ h 0 (omega arith)

  pub stands_rest : (x : ℕ) (l : List ℕ) (next : ℕ) → next ≡ at + 1 → Stands s at (x ∷ l) → Stands s next l
  stands_rest x l next e h i k =
      let m : next + i ≡ at + suc i = omega arith in
      ap (λ (n : ℕ). get_or s n 0) m ∙ h (suc i) (omega arith)

  -- the part of s that it is
  pub stands_part : (l : List ℕ) → Stands s at l → at + length l ≤ length s → take (length l) (drop at s) ≡ l
  stands_part l h k =
      let n = length_part s at (length l) k in
      ext_get_or 0 (take (length l) (drop at s)) l n
      (λ i m. get_or-take (length l) (drop at s) i 0 (omega arith) ∙ get_or-drop at s i 0 ∙ h i (omega arith))
