-- One element of a list by its number, as a walk over the list meets it.
-- Assumes nothing.
use mathlib.Core.Path.{◌≡◌, refl, ap, ◌∙◌}
use mathlib.Core.List.{List, [], ◌∷◌}
use Prim.Native.Nat.{ℕ, suc, ◌-◌}
use native.Mathlib.Omega.{arith}
use Rattle.refusal.specs.Answer.{given, absent}
use Rattle.refusal.specs.Numbered.{nth}

-- by its first one
module _ {A : Type 0} (x : A) (xs : List A) (k : ℕ) where
  nth_first : k ≡ 0 → nth (x ∷ xs) k ≡ given x
  unfolding nth
  nth_first h = rw h

  nth_later : (k ≡ 0 → ⊥) → nth (x ∷ xs) k ≡ nth xs (k - 1)
  unfolding nth
  nth_later h = let z : k ≡ suc (k - 1) = omega arith in ap (nth (x ∷ xs)) z

nth_none : {A : Type 0} (k : ℕ) → nth {A = A} [] k ≡ absent
unfolding nth
nth_none k = refl

-- of a list that is known by an equation
pub nth_same : {A : Type 0} (l m : List A) (k : ℕ) → l ≡ m → nth l k ≡ nth m k
nth_same l m k e = ap (λ (x : List _). nth x k) e

module _ {A : Type 0} (l : List A) (k : ℕ) where
  pub nth_empty : l ≡ [] → nth l k ≡ absent
  nth_empty e = ap (λ (x : List A). nth x k) e ∙ nth_none k

  module _ (x : A) (xs : List A) (e : l ≡ x ∷ xs) where
    pub nth_head : k ≡ 0 → nth l k ≡ given x
    nth_head h = ap (λ (y : List A). nth y k) e ∙ nth_first x xs k h

    pub nth_tail : (k ≡ 0 → ⊥) → nth l k ≡ nth xs (k - 1)
    nth_tail h = ap (λ (y : List A). nth y k) e ∙ nth_later x xs k h
