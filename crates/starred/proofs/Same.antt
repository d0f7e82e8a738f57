-- A test of whether two answers are the same, and that lines which pass it hold.
-- Assumes nothing.
use mathlib.Core.Path.{◌≡◌, refl, ap}
use mathlib.Core.Bool.{Bool, true, false, ◌&&◌}
use mathlib.Core.List.{List, [], ◌∷◌}
use Prim.Native.Nat.{ℕ}
use lib.Dec.{T, eqb, eqb→eq}
use Rattle.refusal.specs.Answer.{Answer, given, absent, refused}
use Rattle.refusal.specs.Every.{Every}
use Rattle.laws.proofs.Tests.{both}
use Rattle.starred.specs.Sheet.{Line, Holds}

abbrev same_numbers : List ℕ → List ℕ → Bool
same_numbers [] [] = true
same_numbers [] (y ∷ ys) = false
same_numbers (x ∷ xs) [] = false
same_numbers (x ∷ xs) (y ∷ ys) = eqb x y && same_numbers xs ys

abbrev same : Answer (List ℕ) → Answer (List ℕ) → Bool
same (given a) (given b) = same_numbers a b
same (given a) absent = false
same (given a) (refused m q j) = false
same absent (given b) = false
same absent absent = true
same absent (refused m q j) = false
same (refused n p i) (given b) = false
same (refused n p i) absent = false
same (refused n p i) (refused m q j) = eqb n m && (eqb p q && eqb i j)

abbrev all_same : List Line → Bool
all_same [] = true
all_same (l ∷ ls) = same l.says l.stated && all_same ls

-- ---- what passes is equal

numbers_equal : (a b : List ℕ) → T (same_numbers a b) → a ≡ b
numbers_equal [] [] t = refl
numbers_equal [] (y ∷ ys) t = absurd t
numbers_equal (x ∷ xs) [] t = absurd t
numbers_equal (x ∷ xs) (y ∷ ys) t =
    let passed = both (eqb x y) (same_numbers xs ys) t in
    rw (eqb→eq x y passed.0, numbers_equal xs ys passed.1) refl

answers_equal : (a b : Answer (List ℕ)) → T (same a b) → a ≡ b
answers_equal (given a) (given b) t = ap given (numbers_equal a b t)
answers_equal (given a) absent t = absurd t
answers_equal (given a) (refused m q j) t = absurd t
answers_equal absent (given b) t = absurd t
answers_equal absent absent t = refl
answers_equal absent (refused m q j) t = absurd t
answers_equal (refused n p i) (given b) t = absurd t
answers_equal (refused n p i) absent t = absurd t
answers_equal (refused n p i) (refused m q j) t =
    let number = both (eqb n m) (eqb p q && eqb i j) t in
    let place = both (eqb p q) (eqb i j) number.1 in
    rw (eqb→eq n m number.0, eqb→eq p q place.0, eqb→eq i j place.1) refl

pub all_hold : (ls : List Line) → T (all_same ls) → Every Holds ls
all_hold [] t = tt
all_hold (l ∷ ls) t =
    let passed = both (same l.says l.stated) (all_same ls) t in
    (answers_equal l.says l.stated passed.0, all_hold ls passed.1)
