-- What a call leaves in the output that it was lent.
-- Assumes nothing.
use Rattle.std.specs.Prelude.{ℕ, suc, ◌+◌, List, [], ◌∷◌, ◌++◌, length, drop, set, leb, ltb}
use Rattle.refusal.specs.Answer.{pick, Answer, given, absent, refused}

-- the answer, which is how many bytes were written, and the output as it is left
pub record Output : Type 0 where
  pub answer : Answer ℕ
  pub left : List ℕ

abbrev pub output : Answer ℕ → List ℕ → Output
output a o = record { answer = a; left = o }

-- bs at the start of out, "output bytes past the reported length" as they were; 11, "lent output ... too short for the result", is the last
-- refusal of every call; and "every lent byte ... stays" where there is a refusal, or nothing to write
unfoldable pub emit : Answer (List ℕ) → List ℕ → Output
emit (given bs) out = pick (ltb (length out) (length bs)) (output (refused 11 0 0) out) (output (given (length bs)) (bs ++ drop (length bs) out))
emit absent out = output absent out
emit (refused n p i) out = output (refused n p i) out

-- ---- writers that the crates share: all of bs from a place on, or nothing

-- out, with bs stored from the place at on
unfoldable pub put : List ℕ → ℕ → List ℕ → List ℕ
put out at [] = out
put out at (b ∷ bs) = put (set out at b) (suc at) bs

-- the place after what was written, and the output as it is left
pub record Placed : Type 0 where
  pub next : ℕ
  pub left : List ℕ

abbrev pub placing : ℕ → List ℕ → Placed
placing n o = record { next = n; left = o }

unfoldable pub placed : List ℕ → ℕ → List ℕ → Placed
placed bs at out = pick (leb (at + length bs) (length out)) (placing (at + length bs) (put out at bs)) (placing at out)
