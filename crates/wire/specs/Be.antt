-- Numbers of a fixed length: "Numbers are big-endian" (document 01), so the upper byte is first.
-- Assumes nothing.
use Rattle.std.specs.Prelude.{ℕ, ◌+◌, ◌*◌, List, [], ◌∷◌, length, ltb, eqb}
use Rattle.refusal.specs.Sizes.{most_bytes}
use Rattle.refusal.specs.Answer.{pick, Answer, given, refused, on_given}

-- the number that x and then the bytes spell
unfoldable pub be_from : ℕ → List ℕ → ℕ
be_from x [] = x
be_from x (b ∷ bs) = be_from (x * 256 + b) bs

unfoldable pub be : List ℕ → ℕ
be s = be_from 0 s

-- why a value of n bytes, which is not its length, is refused: 1 where it is over the size, else 4 at the place of the entry that holds it
-- ("A function on one bare value reports place 0")
unfoldable pub wrong_length : {A : Type 0} → (place n : ℕ) → Answer A
wrong_length place n = pick (ltb most_bytes n) (refused 1 0 0) (refused 4 place 0)

-- a value whose length must be k
unfoldable pub ruled : (k place : ℕ) → List ℕ → Answer (List ℕ)
ruled k place v = pick (eqb (length v) k) (given v) (wrong_length place (length v))

-- the number that it spells
unfoldable pub fixed : (k place : ℕ) → List ℕ → Answer ℕ
fixed k place v = on_given be (ruled k place v)
