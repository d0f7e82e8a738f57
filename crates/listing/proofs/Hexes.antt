-- What the search needs for a listing of hex text, of `base16::decode` into room for any dataset: what is decoded fits, and is the start of what is left.
-- Assumes nothing.
use mathlib.Core.Path.{◌≡◌, refl}
use mathlib.Core.List.{List, ◌++◌}
use Prim.Native.Nat.{ℕ, ◌+◌, ◌≤◌}
use native.Mathlib.Omega.{arith}
use lib.ListN.{length, length-append, take}
use lib.Seq.{take-append_seam}
use Rattle.refusal.specs.Sizes.{most_bytes}
use Rattle.refusal.specs.Answer.{Answer, given, absent, refused}
use Rattle.base16.specs.Base16.{decoded}
use Rattle.base16.proofs.RoundTrips.{decoded_fits}

abbrev length_of : Answer (List ℕ) → ℕ
length_of (given bs) = length bs
length_of absent = 0
length_of (refused n p i) = 0

within : (x : List ℕ) (a : Answer (List ℕ)) → decoded x ≡ a → length_of a ≤ most_bytes
within x (given bs) e = decoded_fits x bs e
within x absent e = omega arith
within x (refused n p i) e = omega arith

-- `grind` takes a lemma up at the first call that it states
pub decoded_within : (x : List ℕ) → (decoded x ≡ decoded x) × (length_of (decoded x) ≤ most_bytes)
decoded_within x = (refl, within x (decoded x) refl)

pub front : (xs ys : List ℕ) → take (length xs) (xs ++ ys) ≡ xs
front xs ys = take-append_seam xs ys

pub length_both : (xs ys : List ℕ) → length (xs ++ ys) ≡ length xs + length ys
length_both xs ys = length-append xs ys
