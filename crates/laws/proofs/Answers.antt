-- Answers: what is given by f of an answer, or after it, was given by the answer; an answer passed on, by one function after another, or as it is.
-- Assumes nothing.
use mathlib.Core.Path.{◌≡◌, refl, sym, ap}
use mathlib.Core.List.{List}
use Prim.Native.Nat.{ℕ}
use native.Mathlib.Omega.{arith}
use Rattle.refusal.specs.Answer.{Answer, given, absent, refused, then_do, on_given}
use Rattle.refusal.proofs.Papers.{Tells}

pub record Gives {A B : Type 0} (f : A → B) (a : Answer A) (y : B) : Type 0 where
  pub one : A
  pub is : a ≡ given one
  pub so : f one ≡ y

pub gives : {A B : Type 0} (f : A → B) (a : Answer A) (y : B) → on_given f a ≡ given y → Gives f a y
gives f (given x) y e = record { one = x; is = refl; so = cc }
gives f absent y e = absurd (let z : ◌≡◌ {A = ℕ} 0 1 = cc in omega arith)
gives f (refused n p i) y e = absurd (let z : ◌≡◌ {A = ℕ} 0 1 = cc in omega arith)

pub then_gives : {A B : Type 0} (a : Answer A) (f : A → Answer B) (y : B) → then_do a f ≡ given y → (x : A) × (a ≡ given x) × (f x ≡ given y)
then_gives (given x) f y e = (x, refl, e)
then_gives absent f y e = absurd (let z : ◌≡◌ {A = ℕ} 0 1 = cc in omega arith)
then_gives (refused n p i) f y e = absurd (let z : ◌≡◌ {A = ℕ} 0 1 = cc in omega arith)

module _ {A B C : Type 0} where
  pub on_on : (f : B → C) (g : A → B) (a : Answer A) → on_given f (on_given g a) ≡ on_given (λ (x : A). f (g x)) a
  on_on f g (given x) = refl
  on_on f g absent = refl
  on_on f g (refused n p i) = refl

  pub on_then : (f : B → C) (g : A → Answer B) (a : Answer A) → on_given f (then_do a g) ≡ then_do a (λ (x : A). on_given f (g x))
  on_then f g (given x) = refl
  on_then f g absent = refl
  on_then f g (refused n p i) = refl

pub on_itself : (a : Answer (List ℕ)) → on_given (λ (v : List ℕ). v) a ≡ a
on_itself (given v) = refl
on_itself absent = refl
on_itself (refused n p i) = refl

-- where f of an answer is absent or refused, so is the answer
module _ {A B : Type 0} (f : A → B) where
  pub on_absent : (a : Answer A) → absent ≡ on_given f a → a ≡ absent
  on_absent (given x) e = absurd (let z : ◌≡◌ {A = ℕ} 0 1 = cc in omega arith)
  on_absent absent e = refl
  on_absent (refused n p i) e = absurd (let z : ◌≡◌ {A = ℕ} 0 1 = cc in omega arith)

  pub on_refused : (a : Answer A) (n p i : ℕ) → refused n p i ≡ on_given f a → a ≡ refused n p i
  on_refused (given x) n p i e = absurd (let z : ◌≡◌ {A = ℕ} 0 1 = cc in omega arith)
  on_refused absent n p i e = absurd (let z : ◌≡◌ {A = ℕ} 0 1 = cc in omega arith)
  on_refused (refused m q j) n p i e = cc

-- what tells values apart tells answers of them apart
pub on_tells : {A B : Type 0} (f : A → B) → Tells f → Tells (on_given f)
on_tells f t (given x) (given y) e = ap given (t x y (cc))
on_tells f t (given x) absent e = absurd (let z : ◌≡◌ {A = ℕ} 0 1 = cc in omega arith)
on_tells f t (given x) (refused n p i) e = absurd (let z : ◌≡◌ {A = ℕ} 0 1 = cc in omega arith)
on_tells f t absent b e = sym (on_absent f b e)
on_tells f t (refused n p i) b e = sym (on_refused f b n p i e)
