-- A number in decimal, as text.
-- Assumes nothing.
use Rattle.std.specs.Prelude.{ℕ, zero, suc, ◌+◌, ◌/◌, ◌%◌, List, [], ◌∷◌, ◌++◌, ltb}
use Rattle.refusal.specs.Answer.{pick}

-- the digits of n, '0' being 48, the last one n's remainder by ten; in at most `fuel` digits
unfoldable pub decimal_in : (fuel : ℕ) → ℕ → List ℕ
decimal_in zero n = []
decimal_in (suc k) n = pick (ltb n 10) ((48 + n) ∷ []) (decimal_in k (n / 10) ++ ((48 + n % 10) ∷ []))

-- n + 1 digits are enough (`decimal_step`, proofs/Decimals.antt)
unfoldable pub decimal : ℕ → List ℕ
decimal n = decimal_in (suc n) n
