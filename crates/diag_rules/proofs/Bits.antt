-- The bits that are set in a mask byte, the highest first, by computing over the 256 bytes; and the routers that are to come on the way through a mask.
-- Assumes nothing.
use mathlib.Core.Path.{◌≡◌, sym, ap, ap₂, ◌∙◌}
use mathlib.Core.Bool.{Bool}
use mathlib.Core.List.{List, [], ◌∷◌, ◌++◌, map}
use Prim.Native.Nat.{ℕ, zero, suc, ◌+◌, ◌-◌, ◌*◌, ◌/◌, ◌%◌, ◌^◌, ◌≤◌, ◌<◌}
use native.Mathlib.Omega.{arith}
use lib.Count.{ones, count_leading_zeros}
use lib.ListN.{length, length-append, length-map}
use lib.Dec.{T, eqb, leb, ltb, eqb→eq, leb→le, ltb→lt}
use lib.Ieee.Bits.{is_true}
use Rattle.refusal.specs.Answer.{pick}
use Rattle.refusal.specs.Each.{same}
use Rattle.laws.proofs.Tests.{by_test}
use Rattle.laws.proofs.Below.{every, below}
use Rattle.laws.proofs.Same.{same_true}
use Rattle.diag_rules.specs.Mask.{byte_at, bit_of, assigned, routers_of}
use Rattle.diag_rules.proofs.Mask.{rest, rest_hit, rest_miss, rest_end, rest_all}

-- the bits set among n from bit i on, bit 0 being the high one
unfoldable pub bits_from : (n i byte : ℕ) → List ℕ
bits_from zero i b = []
bits_from (suc n) i b = pick (bit_of b i) (i ∷ bits_from n (suc i) b) (bits_from n (suc i) b)

unfoldable pub bits : (byte : ℕ) → List ℕ
bits b = bits_from 8 0 b

-- the highest of them, and what a bit weighs
abbrev pub highest : (byte : ℕ) → ℕ
highest b = count_leading_zeros 8 b

abbrev pub weight : (bit : ℕ) → ℕ
weight i = 128 / 2 ^ i

-- they are as many as the ones that are counted
pub ones_are : (b : ℕ) → b < 256 → ones b ≡ length (bits b)
unfolding bits bits_from bit_of ones
ones_are b h = eqb→eq _ _ (below (λ (k : ℕ). eqb (ones k) (length (bits k))) 256 tt b h)

-- a byte that has a bit set
module _ (b : ℕ) (h : b < 256) (some : 0 < b) where
  at : (f : ℕ → Bool) → T (every (λ (k : ℕ). f (suc k)) 255) → T (f b)
  at f t = let z : suc (b - 1) ≡ b = omega arith in rw z at (below (λ (k : ℕ). f (suc k)) 255 t (b - 1) (omega arith))

  -- its highest is one of the eight, and weighs something, but not more than the byte
  pub top : (highest b < 8) × (0 < weight (highest b)) × (weight (highest b) ≤ b)
  unfolding count_leading_zeros
  top = (
    ltb→lt (highest b) 8 (at (λ (k : ℕ). ltb (highest k) 8) tt),
    ltb→lt 0 (weight (highest b)) (at (λ (k : ℕ). ltb 0 (weight (highest k))) tt),
    leb→le (weight (highest b)) b (at (λ (k : ℕ). leb (weight (highest k)) k) tt),
  )

  -- and the others are those of the byte without it
  pub top_first : bits b ≡ highest b ∷ bits (b - weight (highest b))
  unfolding bits bits_from bit_of count_leading_zeros same
  top_first = same_true _ _ (is_true _ (at (λ (k : ℕ). same (bits k) (highest k ∷ bits (k - weight (highest k)))) tt))

-- ---- the routers that are to come where b is left of byte j of the mask: those of b's bits, and those of the bytes after it
unfoldable pub to_come : (v : List ℕ) → (j b : ℕ) → List ℕ
to_come v j b = map (λ (i : ℕ). j * 8 + i) (bits b) ++ rest (j * 8 + 8) v

module _ (v : List ℕ) (j : ℕ) where
  bit_same : (i k : ℕ) → k ≡ j * 8 + i → i < 8 → assigned v k ≡ bit_of (byte_at v (1 + j)) i
  unfolding bit_of
  bit_same i k e h =
      let byte : k / 8 ≡ j = omega arith in
      let bit : k % 8 ≡ i = omega arith in
      let own : i % 8 ≡ i = omega arith in
      rw (byte, bit, own)

  by_bits : (n i k : ℕ) → k ≡ j * 8 + i → i + n ≡ 8 → j < 8 → rest k v ≡ map (λ (x : ℕ). j * 8 + x) (bits_from n i (byte_at v (1 + j))) ++ rest (j * 8 + 8) v
  unfolding bits_from
  by_bits zero i k e m h = let z : k ≡ j * 8 + 8 = omega arith in ap (λ (x : ℕ). rest x v) z
  by_bits (suc n) i k e m h =
      let more = by_bits n (suc i) (k + 1) (omega arith) (omega arith) h in
      by_test (bit_of (byte_at v (1 + j)) i)
      (λ t. rw t (rest_hit k v (omega arith) (bit_same i k e (omega arith) ∙ t) ∙ ap₂ ◌∷◌ e more))
      (λ t. rw t (rest_miss k v (omega arith) (bit_same i k e (omega arith) ∙ t) ∙ more))

  pub to_come_start : j < 8 → rest (j * 8) v ≡ to_come v j (byte_at v (1 + j))
  unfolding to_come bits
  to_come_start h = by_bits 8 0 (j * 8) (omega arith) (omega arith) h

-- where a loop begins, a router taken, on to the next byte, and past the last
pub to_come_first : (v : List ℕ) → to_come v 0 (byte_at v 1) ≡ routers_of v
to_come_first v = sym (to_come_start v 0 (omega arith)) ∙ rest_all v

module _ (v : List ℕ) (j b : ℕ) where
  pub to_come_take : b < 256 → 0 < b → to_come v j b ≡ (j * 8 + highest b) ∷ to_come v j (b - weight (highest b))
  unfolding to_come
  to_come_take h some = rw (top_first b h some)

  to_come_none : b ≡ 0 → to_come v j b ≡ rest (j * 8 + 8) v
  unfolding to_come bits bits_from bit_of
  to_come_none none = rw none

  pub to_come_next_byte : b ≡ 0 → to_come v j b ≡ rest ((j + 1) * 8) v
  to_come_next_byte none = let z : j * 8 + 8 ≡ (j + 1) * 8 = omega arith in to_come_none none ∙ ap (λ (k : ℕ). rest k v) z

  pub to_come_next : b ≡ 0 → j + 1 < 8 → to_come v j b ≡ to_come v (j + 1) (byte_at v (1 + (j + 1)))
  to_come_next none h = let z : j * 8 + 8 ≡ (j + 1) * 8 = omega arith in to_come_none none ∙ ap (λ (k : ℕ). rest k v) z ∙ to_come_start v (j + 1) h

  pub to_come_end : b ≡ 0 → j + 1 ≡ 8 → to_come v j b ≡ []
  to_come_end none h = to_come_none none ∙ rest_end (j * 8 + 8) v (omega arith)

-- ---- the routers of a byte and those after it, counted
pub byte_count : (v : List ℕ) (j : ℕ) → byte_at v (1 + j) < 256 → j < 8 → length (rest (j * 8) v) ≡ ones (byte_at v (1 + j)) + length (rest (j * 8 + 8) v)
unfolding to_come
byte_count v j small h =
    ap length (to_come_start v j h)
    ∙ length-append (map (λ (i : ℕ). j * 8 + i) (bits (byte_at v (1 + j)))) (rest (j * 8 + 8) v)
    ∙ omega (arith, length-map (bits (byte_at v (1 + j))) (λ (i : ℕ). j * 8 + i), ones_are (byte_at v (1 + j)) small)
