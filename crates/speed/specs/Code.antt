-- An answer as one number, for a caller in another language.
-- Assumes nothing.
use Rattle.std.specs.Prelude.{ℕ, ◌+◌}
use Rattle.refusal.specs.Answer.{Answer, given, absent, refused}

-- 2^63, above every length
abbrev pub none : ℕ
none = 9223372036854775808

-- what is given; or 2^63, and the refusal's number on top of it
unfoldable pub code : Answer ℕ → ℕ
code (given n) = n
code absent = none
code (refused number place input) = none + number
