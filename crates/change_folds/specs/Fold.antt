-- Folding change lists. Document 01: "Folding keeps each type's last operation only: removals first, types ascending, then sets in the order of
-- those last operations, shortest headers. Folding two lists folds the first followed by the second; 10 tests only the folded result."
-- Assumes nothing.
use Rattle.std.specs.Prelude.{ℕ, zero, suc, Bool, false, ◌||◌, List, [], ◌∷◌, ◌++◌, length, ltb, eqb}
use Rattle.refusal.specs.Sizes.{most_bytes, most_entries}
use Rattle.refusal.specs.Answer.{pick, Answer, given, refused, then_do}
use Rattle.change_lists.specs.Operations.{Op, set, remove, OpAt, bare, encode_ops, operations}

-- the type that an operation is about
unfoldable pub about : Op → ℕ
about (set c) = c.ty
about (remove t) = t

-- whether some operation is about a type
unfoldable pub touches : List Op → (ty : ℕ) → Bool
touches [] t = false
touches (o ∷ os) t = eqb (about o) t || touches os t

-- "each type's last operation only": those that no later one is about
unfoldable pub lasts : List Op → List Op
lasts [] = []
lasts (o ∷ os) = pick (touches os (about o)) (lasts os) (o ∷ lasts os)

unfoldable pub sets_of : List Op → List Op
sets_of [] = []
sets_of (set c ∷ os) = set c ∷ sets_of os
sets_of (remove t ∷ os) = sets_of os

unfoldable pub removes : List Op → (ty : ℕ) → Bool
removes [] t = false
removes (set c ∷ os) t = removes os t
removes (remove u ∷ os) t = eqb u t || removes os t

-- "types ascending": a removal for each type below n that os removes
unfoldable pub removals_below : (n : ℕ) → List Op → List Op
removals_below zero os = []
removals_below (suc n) os = removals_below n os ++ pick (removes os n) (remove n ∷ []) []

-- a type is a byte
unfoldable pub types : ℕ
types = 256

unfoldable pub fold_all : List Op → List Op
fold_all os = removals_below types (lasts os) ++ sets_of (lasts os)

-- 10, "result over the sizes above"
abbrev pub sized_ops_within : (bytes most : ℕ) → List Op → Answer (List ℕ)
sized_ops_within bytes most os =
    pick (ltb bytes (length (encode_ops os))) (refused 10 0 0) (pick (ltb most (length os)) (refused 10 0 0) (given (encode_ops os)))

-- within today's sizes
unfoldable pub sized_ops : List Op → Answer (List ℕ)
sized_ops os = sized_ops_within most_bytes most_entries os

unfoldable pub folded : List ℕ → Answer (List ℕ)
folded l = then_do (operations 0 l) (λ (os : List OpAt). sized_ops (fold_all (bare os)))

unfoldable pub folded_two : (first second : List ℕ) → Answer (List ℕ)
folded_two a b =
    then_do (operations 0 a)
    (λ (os : List OpAt). then_do (operations 1 b) (λ (ps : List OpAt). sized_ops (fold_all (bare os ++ bare ps))))
