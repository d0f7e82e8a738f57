-- Lines at the sizes, computed: within today's, and within those of a handset not yet updated.
-- Assumes nothing.
use mathlib.Core.Path.{◌≡◌, refl}
use mathlib.Core.List.{List}
use Prim.Native.Nat.{ℕ, ◌*◌}
use lib.ListN.{length, replicate}
use Rattle.refusal.specs.Answer.{given, refused, on_given}
use Rattle.tlv.specs.Entries.{first, frames, framing, step, valued}
use Rattle.tlv.specs.Limits.{limited, framed}
use Rattle.sizes.specs.Within.{older}
use Rattle.sizes.specs.Calls as c

-- n entries without a value, of type 0
abbrev empty : ℕ → List ℕ
empty n = replicate (2 * n) 0

-- "1, 3 and 10 move to the new numbers" (document 02, Six)
too_many : framed 0 (empty 257) ≡ refused 3 512 0
unfolding framed framing limited frames first step valued
too_many = refl

as_many : on_given length (framed 0 (empty 256)) ≡ given 256
unfolding framed framing limited frames first step valued
as_many = refl

older_too_many : c.framed_in older 0 (empty 129) ≡ refused 3 256 0
unfolding framing limited frames first step valued
older_too_many = refl
