-- Tests that are made one after the other, and sums that stay once they are over the size of a payload.
-- Assumes nothing.
use mathlib.Core.Path.{◌≡◌, refl, sym}
use mathlib.Core.Bool.{Bool, true, false}
use mathlib.Core.List.{List, [], ◌∷◌, ◌++◌}
use Prim.Native.Nat.{ℕ, ◌+◌, ◌≤◌, ◌<◌}
use native.Mathlib.Omega.{arith}
use lib.Dec.{leb}
use borrow.Author.Tests.{leb-true, leb-false}
use Rattle.refusal.specs.Sizes.{most_bytes}
use Rattle.refusal.specs.Answer.{pick}
use Rattle.refusal.specs.Each.{all}
use Rattle.laws.proofs.Tests.{by_test}
use Rattle.diag_writing.specs.Checks.{grown}

pub contra : {G : Type 0} (b : Bool) → b ≡ false → b ≡ true → G
contra b e h = absurd (let z : ◌≡◌ {A = ℕ} 0 1 = cc in omega arith)

pub both_true : (a b : Bool) → pick a b false ≡ true → (a ≡ true) × (b ≡ true)
both_true true b h = (refl, h)
both_true false b h = contra false refl h

pub true_both : (a b : Bool) → a ≡ true → b ≡ true → pick a b false ≡ true
true_both a b e h = rw (e, h)

pub pick_more : (a b c : Bool) → pick (pick a b false) c false ≡ pick a (pick b c false) false
pick_more true b c = refl
pick_more false b c = refl

-- two tests that pass at the same time
pub same_test : (a b : Bool) → (a ≡ true → b ≡ true) → (b ≡ true → a ≡ true) → a ≡ b
same_test true b f g = sym (f refl)
same_test false true f g = contra false refl (g refl)
same_test false false f g = refl

module _ {A : Type 0} (f : A → Bool) where
  pub all_append : (xs ys : List A) → all f (xs ++ ys) ≡ pick (all f xs) (all f ys) false
  unfolding all
  all_append [] ys = refl
  all_append (x ∷ xs) ys = by_test (f x) (λ t. rw t (all_append xs ys)) (λ t. rw t)

-- ---- a sum, and the same with nothing added once it is over the size of a payload
pub record Near (x y : ℕ) : Type 0 where
  pub small : y ≤ most_bytes → x ≡ y
  pub large : most_bytes < y → most_bytes < x

pub near_same : (x y : ℕ) → x ≡ y → Near x y
near_same x y e = record { small = λ h. e; large = λ h. omega arith }

pub near_back : (x y : ℕ) → Near x y → x ≤ most_bytes → x ≡ y
near_back x y n h =
    by_test (leb y most_bytes) (λ t. n.small (leb-true y most_bytes t)) (λ t. let z = n.large (leb-false y most_bytes t) in absurd (omega arith))

pub near_over : (x y : ℕ) → Near x y → most_bytes < x → most_bytes < y
near_over x y n h =
    by_test (leb y most_bytes) (λ t. let z = n.small (leb-true y most_bytes t) in absurd (let w = leb-true y most_bytes t in omega arith)) (λ t. leb-false y most_bytes t)

pub near_grown : (x y n : ℕ) → Near x y → Near (grown x n) (y + n)
unfolding grown
near_grown x y n h =
    by_test (leb x most_bytes)
    (λ t. let e = near_back x y h (leb-true x most_bytes t) in rw t (near_same (x + n) (y + n) (omega arith)))
    (λ t. let w = leb-false x most_bytes t in
    let o = near_over x y h w in
    rw t (record { small = λ k. absurd (omega arith); large = λ k. w }))
