-- The version threshold in a set of policy flags. Document 01: "flag 0x0004 means `V1Or2`; else bits 13 to 15 plus 3 give the version, `V3` to
-- `V10`. Setting `V1Or2` only sets 0x0004; any other clears it and writes bits 13 to 15."
-- Assumes nothing.
use Rattle.std.specs.Prelude.{ℕ, ◌+◌, ◌-◌, ◌*◌, ◌/◌, ◌%◌, Bool, List, [], ◌∷◌, eqb}
use Rattle.std.specs.Int.Bits.{bit_and}
use Rattle.refusal.specs.Answer.{pick}
use Rattle.policy_flags.specs.declared.ThreadProtocolVersion.{ThreadProtocolVersion}
use Rattle.policy_flags.specs.declared.ThreadProtocolVersion.TheVariants as v

-- the Rust's masks, in its order
abbrev pub flag_masks : List ℕ
flag_masks = 0x0001 ∷ 0x0002 ∷ 0x0004 ∷ 0x0008 ∷ 0x0010 ∷ []

-- "contains all of the mask"
abbrev pub has_all : (bits mask : ℕ) → Bool
has_all bits mask = eqb (bit_and bits mask) mask

-- the bit 0x0004, and bits 13 to 15
abbrev pub legacy : ℕ → ℕ
legacy bits = bits / 4 % 2

abbrev pub version_bits : ℕ → ℕ
version_bits bits = bits / 8192 % 8

-- the version of a number: `V1Or2` has none of its own
unfoldable pub version_of : ℕ → ThreadProtocolVersion
version_of n =
    pick (eqb n 3) v.V3
    (pick (eqb n 4) v.V4
    (pick (eqb n 5) v.V5
    (pick (eqb n 6) v.V6 (pick (eqb n 7) v.V7 (pick (eqb n 8) v.V8 (pick (eqb n 9) v.V9 v.V10))))))

unfoldable pub threshold : ℕ → ThreadProtocolVersion
threshold bits = pick (eqb (legacy bits) 1) v.V1Or2 (version_of (version_bits bits + 3))

-- the flags with bits 13 to 15 written, and 0x0004 cleared
abbrev pub written : (bits number : ℕ) → ℕ
written bits n = (bits - legacy bits * 4) % 8192 + (n - 3) * 8192

unfoldable pub with_threshold : ℕ → ThreadProtocolVersion → ℕ
with_threshold bits v.V1Or2 = bits + (1 - legacy bits) * 4
with_threshold bits v.V3 = written bits 3
with_threshold bits v.V4 = written bits 4
with_threshold bits v.V5 = written bits 5
with_threshold bits v.V6 = written bits 6
with_threshold bits v.V7 = written bits 7
with_threshold bits v.V8 = written bits 8
with_threshold bits v.V9 = written bits 9
with_threshold bits v.V10 = written bits 10
