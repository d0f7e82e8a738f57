-- The shapes of the code's loops, for the contracts of its private functions. `digits_are` of proofs/Pairs.antt ties them to Base16.
-- Assumes nothing.
use Rattle.std.specs.Prelude.{ℕ, ◌+◌, ◌*◌, Bool, true, false, ◌&&◌, List, [], ◌∷◌}
use Rattle.refusal.specs.Answer.{pick, Answer, given, absent, refused}
use Rattle.base16.specs.Base16.{digit_value}

-- what is given, where something is, and 0 elsewhere
unfoldable pub or_zero : Answer ℕ → ℕ
or_zero (given v) = v
or_zero absent = 0
or_zero (refused n p i) = 0

unfoldable pub is_given : Answer ℕ → Bool
is_given (given v) = true
is_given absent = false
is_given (refused n p i) = false

unfoldable pub is_digit : ℕ → Bool
is_digit c = is_given (digit_value 0 c)

unfoldable pub value_of : ℕ → ℕ
value_of c = or_zero (digit_value 0 c)

unfoldable pub all_digits : List ℕ → Bool
all_digits [] = true
all_digits (c ∷ cs) = is_digit c && all_digits cs

-- the index of the first character that is no digit, where the text begins at the index at; the end where each is one
unfoldable pub first_bad : (at : ℕ) → List ℕ → ℕ
first_bad at [] = at
first_bad at (c ∷ cs) = pick (is_digit c) (first_bad (at + 1) cs) at

-- the bytes of a text of digits
unfoldable pub paired : List ℕ → List ℕ
paired [] = []
paired (a ∷ []) = []
paired (a ∷ b ∷ rest) = (value_of a * 16 + value_of b) ∷ paired rest
