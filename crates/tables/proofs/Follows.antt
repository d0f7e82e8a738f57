-- The rows that a cursor comes by are a list's elements, in order, where one step of the cursor takes the list's head away.
-- Assumes nothing.
use mathlib.Core.Path.{◌≡◌, refl, sym, ap, ◌∙◌, subst}
use mathlib.Core.List.{List, [], ◌∷◌, ◌++◌, map}
use Prim.Native.Nat.{ℕ, zero, suc, ◌<◌}
use native.Mathlib.Omega.{arith}
use lib.ListN.{length}
use Rattle.tables.specs.Tab.{tab, steps}

pub steps_shift : {A : Type 0} (g : A → A) (i : ℕ) (a : A) → steps g (suc i) a ≡ steps g i (g a)
unfolding steps
steps_shift g zero a = refl
steps_shift g (suc i) a = ap g (steps_shift g i a)

pub tab_same : {A : Type 0} (f h : ℕ → A) (n : ℕ) → ((i : ℕ) → f i ≡ h i) → tab f n ≡ tab h n
unfolding tab
tab_same f h zero e = refl
tab_same f h (suc n) e = ap (λ l. l ++ (f n ∷ [])) (tab_same f h n e) ∙ ap (λ x. tab h n ++ (x ∷ [])) (e n)

pub tab_cons : {A : Type 0} (f : ℕ → A) (n : ℕ) → tab f (suc n) ≡ f 0 ∷ tab (λ i. f (suc i)) n
unfolding tab
tab_cons f zero = refl
tab_cons f (suc n) = ap (λ l. l ++ (f (suc n) ∷ [])) (tab_cons f n)

module _ {K X D : Type 0} (g : K → K) (f : K → D) (φ : X → D) (P Q : K → Type 0) (comes : K → List X)
    (one : (c : K) → P c → (x : X) (xs : List X) → comes c ≡ x ∷ xs → (f c ≡ φ x) × (comes (g c) ≡ xs) × P (g c) × Q c) where
  pub follows : (xs : List X) (c : K) → P c → comes c ≡ xs → tab (λ i. f (steps g i c)) (length xs) ≡ map φ xs
  unfolding tab steps
  follows [] c p e = refl
  follows (x ∷ xs) c p e =
      let o = one c p x xs e in
      tab_cons (λ i. f (steps g i c)) (length xs)
      ∙ ap (λ l. f c ∷ l) (tab_same (λ i. f (steps g (suc i) c)) (λ i. f (steps g i (g c))) (length xs) (λ i. ap f (steps_shift g i c)) ∙ follows xs (g c) o.2 o.1)
      ∙ ap (λ y. y ∷ map φ xs) o.0

  pub reaches : (xs : List X) (c : K) → P c → comes c ≡ xs → (i : ℕ) → i < length xs → Q (steps g i c)
  unfolding steps
  reaches [] c p e i l = absurd (omega arith)
  reaches (x ∷ xs) c p e zero l = (one c p x xs e).3
  reaches (x ∷ xs) c p e (suc i) l =
      let o = one c p x xs e in
      subst Q (sym (steps_shift g i c)) (reaches xs (g c) o.2 o.1 i (omega arith))
