-- Base 16 of RFC 4648, section 8, as it is written: two digits for each byte, the upper four bits first, in lower case.
-- Assumes nothing.
use Rattle.std.specs.Prelude.{ℕ, ◌+◌, ◌/◌, ◌%◌, List, [], ◌∷◌, ltb}
use Rattle.refusal.specs.Answer.{pick}

-- the character of a value below 16: '0' to '9', then 'a' to 'f'
unfoldable pub digit : ℕ → ℕ
digit v = pick (ltb v 10) (48 + v) (87 + v)

-- the text of bytes
unfoldable pub hex_text : List ℕ → List ℕ
hex_text [] = []
hex_text (b ∷ bs) = digit (b / 16) ∷ digit (b % 16) ∷ hex_text bs
