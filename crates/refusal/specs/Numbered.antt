-- A list's elements by their number, from 0 on.
-- Assumes nothing.
use Rattle.std.specs.Prelude.{ℕ, zero, suc, List, [], ◌∷◌}
use Rattle.refusal.specs.Answer.{Answer, given, absent}

-- "absent" past the last
unfoldable pub nth : {A : Type 0} → List A → ℕ → Answer A
nth [] i = absent
nth (x ∷ xs) zero = given x
nth (x ∷ xs) (suc i) = nth xs i
