-- Rows one after the other: their length, and where row k stands.
-- Assumes nothing.
use mathlib.Core.Path.{◌≡◌, refl, sym, ap, ◌∙◌, subst}
use mathlib.Core.List.{List, [], ◌∷◌, ◌++◌, append_assoc}
use Prim.Native.Nat.{ℕ, zero, suc, ◌+◌, ◌*◌, ◌<◌}
use native.Mathlib.Omega.{arith}
use lib.ListN.{length, get_or, length-append}
use Rattle.refusal.specs.Each.{joined}
use Rattle.laws.proofs.Stands.{Stands, stands_front, stands_back}

pub joined_append : {A : Type 0} (f : A → List ℕ) (xs ys : List A) → joined f (xs ++ ys) ≡ joined f xs ++ joined f ys
unfolding joined
joined_append f [] ys = refl
joined_append f (x ∷ xs) ys = ap (λ (l : List ℕ). f x ++ l) (joined_append f xs ys) ∙ sym (append_assoc (f x) (joined f xs) (joined f ys))

module _ {A : Type 0} (k : ℕ) (enc : A → List ℕ) (size : (x : A) → length (enc x) ≡ k) where
  pub joined_length : (xs : List A) → length (joined enc xs) ≡ length xs * k
  unfolding joined
  joined_length [] = omega arith
  joined_length (x ∷ xs) =
      let n : suc (length xs) * k ≡ k + length xs * k = omega arith in
      length-append (enc x) (joined enc xs) ∙ rw (size x, joined_length xs, n)

  -- row i
  pub row_stands : (s : List ℕ) (d : A) (xs : List A) (at i : ℕ) → i < length xs → Stands s at (joined enc xs) → Stands s (at + i * k) (enc (get_or xs i d))
  unfolding joined
  row_stands s d [] at i l h = absurd (omega arith)
  row_stands s d (x ∷ xs) at zero l h =
      let z : at ≡ at + 0 * k = omega arith in
      subst (λ (n : ℕ). Stands s n (enc x)) z (stands_front s at (enc x) (joined enc xs) h)
  row_stands s d (x ∷ xs) at (suc i) l h =
      let z : at + k + i * k ≡ at + suc i * k = omega arith in
      let n : at + k ≡ at + length (enc x) = omega (arith, size x) in
      subst (λ (m : ℕ). Stands s m (enc (get_or xs i d))) z (row_stands s d xs (at + k) i (omega arith) (stands_back s at (enc x) (joined enc xs) (at + k) n h))
