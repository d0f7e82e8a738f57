-- What the private functions answer: a byte at a place, and the character there.
-- Assumes nothing.
use Rattle.std.specs.Prelude.{◌≡◌, Bool, true, ◌&&◌, List, [], ◌∷◌, ℕ, ◌+◌, ◌≤◌, ◌<◌, ltb, length, drop, get_or}
use Rattle.refusal.specs.Answer.{pick}
use Rattle.utf8.specs.Utf8.{between, one, octets, class_of}

-- every byte is ASCII
unfoldable pub all_one : List ℕ → Bool
all_one [] = true
all_one (b ∷ bs) = one b && all_one bs

-- a byte from low to high stands at the place
unfoldable pub within_at : ℕ → ℕ → List ℕ → ℕ → Bool
within_at low high s at = ltb at (length s) && between low high (get_or s at 0)

-- 2, 3 or 4 where that many bytes stand from the place on, all after the first from 80 to BF, and the second from low to high; else 0
unfoldable pub two_at : List ℕ → (at : ℕ) → ℕ
two_at s at = pick (within_at 128 191 s (at + 1)) 2 0

unfoldable pub three_at : (low high : ℕ) → List ℕ → (at : ℕ) → ℕ
three_at low high s at = pick (within_at low high s (at + 1)) (pick (within_at 128 191 s (at + 2)) 3 0) 0

unfoldable pub four_at : (low high : ℕ) → List ℕ → (at : ℕ) → ℕ
four_at low high s at = pick (within_at low high s (at + 1)) (pick (within_at 128 191 s (at + 2)) (pick (within_at 128 191 s (at + 3)) 4 0) 0) 0

-- a byte of class k stands at the place
pub record FirstAt (s : List ℕ) (at k : ℕ) : Type 0 where
  pub inside : at < length s
  pub byte : get_or s at 0 < 256
  pub class : k ≡ class_of (get_or s at 0)

-- a character of n bytes stands at the place, or none does and n is 0
pub record CharAt (s : List ℕ) (at n : ℕ) : Type 0 where
  pub inside : at + n ≤ length s
  pub goes_on : octets (drop at s) ≡ ltb 0 n && octets (drop (at + n) s)
