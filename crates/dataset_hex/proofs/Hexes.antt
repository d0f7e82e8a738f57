-- What a call learns of a writer into a scratch with room for all that it can give: the refusal is the writer's own, or the bytes are the
-- start of the scratch. And the laws of the calls on hex text.
-- Assumes nothing.
use mathlib.Core.Path.{◌≡◌, refl, sym, ap, ◌∙◌}
use mathlib.Core.List.{List, ◌++◌}
use Prim.Native.Nat.{ℕ, ◌+◌, ◌-◌, ◌≤◌, ◌<◌}
use native.Mathlib.Omega.{arith}
use native.Mathlib.Nat.{sub-zero}
use lib.ListN.{length, length-append, take, get_or}
use lib.Seq.{take-append_seam}
use Rattle.refusal.specs.Sizes.{most_bytes}
use Rattle.refusal.specs.Answer.{Answer, given, absent, refused}
use Rattle.refusal.specs.Output.{output, emit}
use Rattle.refusal.specs.Every.{Bytes}
use Rattle.laws.proofs.Parts.{every_byte}
use Rattle.laws.proofs.Callers.{Refuses, itself, no_room, gave_front, refuses}
use Rattle.tlv_rewriting.specs.Rewrite.{rewritten}
use Rattle.tlv_rewriting.specs.declared.Choice.TheVariants.{All}
use Rattle.dataset_edits.proofs.ReadBack.{rewritten_fits}
use Rattle.hex_text.specs.HexText.{hex_text}
use Rattle.base16.specs.Base16.{decoded}
use Rattle.base16.proofs.RoundTrips.{decoded_fits}
use Rattle.dataset_hex.specs.Hex.{hex_of, well_framed, from_hex}

module _ (a : Answer (List ℕ)) (out left : List ℕ) where
  -- the part from 0 to n
  gave_part : (n : ℕ) → output (given n) left ≡ emit a out → a ≡ given (take (n - 0) left)
  gave_part n e = gave_front out left a n e ∙ ap (λ (k : ℕ). given (take k left)) (sym (sub-zero n))

  refused_itself : ((bs : List ℕ) → a ≡ given bs → length bs ≤ length out) → (n p i : ℕ) → output (refused n p i) left ≡ emit a out
      → a ≡ refused n p i
  refused_itself room n p i e = by (refuses out left a n p i e)
    where
      by : Refuses a out left n p i → a ≡ refused n p i
      by (itself is _) = is
      by (no_room bs is short _) = absurd (omega (arith, room bs is))

-- ---- to hex
module _ (s scratch left : List ℕ) where
  pub to_hex_given : (n : ℕ) → output (given n) left ≡ emit (rewritten All s) scratch → hex_of s ≡ given (hex_text (take (n - 0) left))
  unfolding hex_of
  to_hex_given n e = rw (gave_part _ _ _ n e)

-- for the search: what is written afresh fits, and is the start of what is left
abbrev length_of : Answer (List ℕ) → ℕ
length_of (given bs) = length bs
length_of absent = 0
length_of (refused n p i) = 0

within : (s : List ℕ) → Bytes s → (a : Answer (List ℕ)) → rewritten All s ≡ a → length_of a ≤ most_bytes
within s b (given bs) e = rewritten_fits All s bs b e
within s b absent e = omega arith
within s b (refused n p i) e = omega arith

-- `grind` takes a lemma up at the first call that it states
pub rewritten_within : (s : List ℕ) → ((i : ℕ) → get_or s i 0 < 256) → (rewritten All s ≡ rewritten All s) × (length_of (rewritten All s) ≤ most_bytes)
rewritten_within s small = (refl, within s (every_byte s small) (rewritten All s) refl)

pub front : (xs ys : List ℕ) → take (length xs) (xs ++ ys) ≡ xs
front xs ys = take-append_seam xs ys

pub length_both : (xs ys : List ℕ) → length (xs ++ ys) ≡ length xs + length ys
length_both xs ys = length-append xs ys

-- ---- from hex
module _ (x scratch left : List ℕ) where
  pub from_hex_given : (n : ℕ) → output (given n) left ≡ emit (decoded x) scratch → from_hex x ≡ well_framed (take (n - 0) left)
  unfolding from_hex
  from_hex_given n e = rw (gave_part _ _ _ n e)

  pub from_hex_refused : most_bytes ≤ length scratch → (n p i : ℕ) → output (refused n p i) left ≡ emit (decoded x) scratch
      → refused n p i ≡ from_hex x
  unfolding from_hex
  from_hex_refused room n p i e = rw (refused_itself _ _ _ (λ bs is. omega (arith, decoded_fits x bs is)) n p i e)
