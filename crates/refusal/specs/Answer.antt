-- The answer of a call, on paper, for every type of what is given: document 01's "A refusal gives a number, a place and which input"
-- and "An absent value is "absent", with no number".
-- Assumes nothing.
use Rattle.std.specs.Prelude.{ℕ, Bool, true, false}

pub data Answer (A : Type 0) : Type 0 where
  given : A → Answer A
  absent : Answer A
  refused : (number place input : ℕ) → Answer A

-- a where the test passes, b where it fails
abbrev pub pick : {A : Type 0} → Bool → A → A → A
pick true a b = a
pick false a b = b

-- what is given goes on to f; "absent" and a refusal stay as they are
abbrev pub then_do : {A B : Type 0} → Answer A → (A → Answer B) → Answer B
then_do (given a) f = f a
then_do absent f = absent
then_do (refused n p i) f = refused n p i

-- f of what is given
abbrev pub on_given : {A B : Type 0} → (A → B) → Answer A → Answer B
on_given f (given a) = given (f a)
on_given f absent = absent
on_given f (refused n p i) = refused n p i
