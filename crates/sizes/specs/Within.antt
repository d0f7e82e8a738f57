-- Sizes, and how the answers of one call within two sizes stand to each other. Document 02, Six: "Stored datasets and lists keep their form, so old ones
-- read the same. A handset not yet updated refuses a larger one with 1 or 3 and never shows part of it."
-- Assumes nothing.
use Rattle.std.specs.Prelude.{ℕ, ◌≤◌, ◌≡◌, ◌⊎◌}
use Rattle.refusal.specs.Sizes.{most_bytes, most_entries, most_digits}
use Rattle.refusal.specs.Answer.{Answer, given, absent, refused}

-- the most bytes of a dataset, payload, change list or bare value, entries or operations, and hex digits
pub record Sizes : Type 0 where
  pub bytes : ℕ
  pub entries : ℕ
  pub digits : ℕ

-- the library's
abbrev pub today : Sizes
today = record { bytes = most_bytes; entries = most_entries; digits = most_digits }

-- those of "A handset not yet updated", which are document 01's: "at most 8,192 bytes and 128 entries in a dataset or payload; 8,192 bytes and 128
-- operations in a change list", "(16,384 hex digits)"
abbrev pub older : Sizes
older = record { bytes = 8192; entries = 128; digits = 16384 }

-- none of the first is larger
pub record Under (z y : Sizes) : Type 0 where
  pub bytes : z.bytes ≤ y.bytes
  pub entries : z.entries ≤ y.entries
  pub digits : z.digits ≤ y.digits

-- a refusal for size: 1, 3 or 10
abbrev pub ForSize : {A : Type 0} → Answer A → Type 0
ForSize (given x) = ⊥
ForSize absent = ⊥
ForSize (refused n p i) = (n ≡ 1) ⊎ ((n ≡ 3) ⊎ (n ≡ 10))

-- THE RELATION: within the smaller sizes a call is refused for size, or answers just what it answers within the larger: values, absence and
-- every other refusal. So what was answered is answered the same. (What the smaller sizes refuse: proofs/Larger.antt)
pub data Still {A : Type 0} (a b : Answer A) : Type 0 where
  for_size : ForSize a → Still a b
  same : a ≡ b → Still a b
