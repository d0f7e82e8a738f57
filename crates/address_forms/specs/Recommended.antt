-- The text that RFC 5952, sections 4.1 to 4.3, recommends for an address of these groups, rule by rule. `recommended` and `recommended_one` of
-- proofs/Recommends.antt: `address_text` gives such a text, and there is no other.
-- Assumes nothing.
use Rattle.std.specs.Prelude.{◌≡◌, List, ◌∷◌, ◌++◌, ℕ, ◌+◌, ◌≤◌, length, take, drop, replicate}
use Rattle.refusal.specs.Every.{Every}
use Rattle.base16.specs.Base16.{lowered}
use Rattle.address_forms.specs.Colons.{joined}
use Rattle.address_forms.specs.AddressForms.{Field, values}

-- a field as it is written: 4.1, "Leading zeros MUST be suppressed" ('0' is 48), but "A single 16-bit 0000 field MUST be represented as 0"; and 4.3,
-- "The characters "a", "b", "c", "d", "e", and "f" in an IPv6 address MUST be represented in lowercase"
pub record ShortField (x : List ℕ) : Type 0 where
  pub field : Field x
  pub bare : (d : ℕ) (ds : List ℕ) → x ≡ 48 ∷ d ∷ ds → ⊥
  pub lower : lowered x ≡ x

-- the n groups from the one numbered s on, counted from 0, are there, and zero
pub record Zeros (gs : List ℕ) (s n : ℕ) : Type 0 where
  pub inside : s + n ≤ length gs
  pub zero : take n (drop s gs) ≡ replicate n 0

-- without "::": 4.2.1, "The use of the symbol "::" MUST be used to its maximum capability", so no two groups side by side are zero
pub record Unshortened (gs text : List ℕ) : Type 0 where
  pub fields : List (List ℕ)
  pub each : Every ShortField fields
  pub says : gs ≡ values fields
  pub spells : text ≡ joined fields
  pub none : (s : ℕ) → Zeros gs s 2 → ⊥

-- with "::" for a run of groups. 4.2.2: "The symbol "::" MUST NOT be used to shorten just one 16-bit 0 field". 4.2.3: "the longest run of consecutive
-- 16-bit 0 fields MUST be shortened", and where runs are of equal length, "the first sequence of zero bits MUST be shortened"
pub record Shortened (gs text : List ℕ) : Type 0 where
  pub left : List (List ℕ)
  pub run : ℕ
  pub right : List (List ℕ)
  pub each_left : Every ShortField left
  pub each_right : Every ShortField right
  pub says : gs ≡ values left ++ (replicate run 0 ++ values right)
  pub spells : text ≡ joined left ++ (58 ∷ 58 ∷ joined right)
  pub several : 2 ≤ run
  pub longest : (s n : ℕ) → Zeros gs s n → n ≤ run
  pub first : (s : ℕ) → Zeros gs s run → length left ≤ s

pub data Recommended (gs text : List ℕ) : Type 0 where
  in_full : Unshortened gs text → Recommended gs text
  in_short : Shortened gs text → Recommended gs text
