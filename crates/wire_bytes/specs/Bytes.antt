-- The bytes of a number: "Numbers are big-endian" (document 01), so the upper byte is first.
-- Assumes nothing.
use Rattle.std.specs.Prelude.{ℕ, zero, suc, ◌/◌, ◌%◌, List, [], ◌∷◌, ◌++◌}

-- the lower k bytes of x
unfoldable pub bytes_of : (k : ℕ) → ℕ → List ℕ
bytes_of zero x = []
bytes_of (suc k) x = bytes_of k (x / 256) ++ (x % 256 ∷ [])
