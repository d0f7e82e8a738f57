-- The mask of a Route64: the routers that it assigns, and the length that it asks for. Document 01: "5: sequence, 8 mask bytes, one route byte for each
-- mask bit set, high bit of the first byte being router 0. Length is exactly 9 plus the number of set bits."
-- Assumes nothing.
use Rattle.std.specs.Prelude.{ℕ, zero, suc, ◌+◌, ◌-◌, ◌/◌, ◌%◌, ◌^◌, Bool, false, List, [], ◌∷◌, length, get_or, eqb, leb}
use Rattle.refusal.specs.Answer.{pick}

-- byte k of a value, from 0 on
abbrev pub byte_at : List ℕ → ℕ → ℕ
byte_at v k = get_or v k 0

-- router k's bit of its mask byte: the high bit first
unfoldable pub bit_of : (byte k : ℕ) → Bool
bit_of b k = eqb (b / 2 ^ (7 - k % 8) % 2) 1

-- 8 routers a mask byte
abbrev pub assigned : List ℕ → ℕ → Bool
assigned v k = bit_of (byte_at v (1 + k / 8)) k

-- the assigned ones of n routers from k on
unfoldable pub routers : (n k : ℕ) → List ℕ → List ℕ
routers zero k v = []
routers (suc n) k v = pick (assigned v k) (k ∷ routers n (suc k) v) (routers n (suc k) v)

unfoldable pub routers_of : List ℕ → List ℕ
routers_of v = routers 64 0 v

-- the rule for the length
unfoldable pub routes_fit : List ℕ → Bool
routes_fit v = pick (leb 9 (length v)) (eqb (length v) (9 + length (routers_of v))) false
