-- Base 16 of RFC 4648, section 8, as it is read: two digits for each byte, the upper four bits first. Document 01: "Hex is read in both cases and
-- written in lower case".
-- Assumes nothing.
use Rattle.std.specs.Prelude.{ℕ, ◌+◌, ◌-◌, ◌*◌, ◌%◌, Bool, ◌&&◌, List, [], ◌∷◌, length, ltb, leb, eqb}
use Rattle.refusal.specs.Sizes.{most_digits}
use Rattle.refusal.specs.Answer.{pick, Answer, given, refused, then_do, on_given}

abbrev pub between : ℕ → ℕ → ℕ → Bool
between low high c = leb low c && leb c high

-- the value of the character c, which stands at the index at: '0' to '9', 'a' to 'f', 'A' to 'F'; else 8 at its index
unfoldable pub digit_value : (at c : ℕ) → Answer ℕ
digit_value at c =
    pick (between 48 57 c) (given (c - 48))
    (pick (between 97 102 c) (given (c - 87)) (pick (between 65 70 c) (given (c - 55)) (refused 8 at 0)))

-- the bytes of the text from the index at on, two characters a byte; a character that is left over has no byte
unfoldable pub digits : (at : ℕ) → List ℕ → Answer (List ℕ)
digits at [] = given []
digits at (a ∷ []) = refused 7 0 0
digits at (a ∷ b ∷ rest) =
    then_do (digit_value at a)
    (λ hi. then_do (digit_value (at + 1) b) (λ lo. on_given (λ (bs : List ℕ). (hi * 16 + lo) ∷ bs) (digits (at + 2) rest)))

-- the bytes of a text: "1, then 7 and 8 for hex", where so many digits are the most
abbrev pub decoded_within : (most : ℕ) → List ℕ → Answer (List ℕ)
decoded_within most x = pick (ltb most (length x)) (refused 1 0 0) (pick (eqb (length x % 2) 1) (refused 7 0 0) (digits 0 x))

-- within today's size
unfoldable pub decoded : List ℕ → Answer (List ℕ)
decoded x = decoded_within most_digits x

-- a text as it would be written: 'A' to 'F' in lower case, every other character as it is
unfoldable pub lowered : List ℕ → List ℕ
lowered [] = []
lowered (c ∷ cs) = pick (between 65 70 c) (c + 32) c ∷ lowered cs
