-- `tlv_writing::entry_size` meets its contract.
use mathlib.Core.Path.{◌≡◌}
use Prim.Native.Nat.{ℕ, ◌+◌, ◌≤◌, ◌<◌}
use native.Mathlib.Omega.{arith}
use borrow.Author.Tests.{le-leb, lt-leb}
use Rattle.refusal.specs.Sizes.{most_short, most_value}
use Rattle.tlv_writing.specs.Encode.{size_of, entry_size}
use Rattle.tlv_writing.proofs.entry_size.Goals as goal

module _ (n : ℕ) where
  short : n ≤ most_short → n + 2 ≡ entry_size n
  unfolding entry_size size_of
  short h = simp (le-leb n most_value (omega arith), le-leb _ _ h)

  long : most_short < n → n ≤ most_value → n + 4 ≡ entry_size n
  unfolding entry_size size_of
  long h k = simp (le-leb _ _ k, lt-leb _ _ h)

  too_long : most_value < n → 0 ≡ entry_size n
  unfolding entry_size
  too_long h = simp (lt-leb _ _ h)

pub returns-then-n-le-MAX_STANDARD_TLV_LENGTH : goal.returns-then-n-le-MAX_STANDARD_TLV_LENGTH
returns-then-n-le-MAX_STANDARD_TLV_LENGTH c = short _ c.if-n-le-MAX_STANDARD_TLV_LENGTH.true

pub returns-then-n-le-MAX_EXTENDED_TLV_LENGTH : goal.returns-then-n-le-MAX_EXTENDED_TLV_LENGTH
returns-then-n-le-MAX_EXTENDED_TLV_LENGTH c = long _ c.if-n-le-MAX_STANDARD_TLV_LENGTH.false c.if-n-le-MAX_EXTENDED_TLV_LENGTH.true

pub returns : goal.returns
returns c = too_long _ c.if-n-le-MAX_EXTENDED_TLV_LENGTH.false
