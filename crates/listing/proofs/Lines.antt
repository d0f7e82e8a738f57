-- The laws of the lines: their lengths, and one entry more at a time.
-- Assumes nothing.
use mathlib.Core.Path.{◌≡◌, refl}
use mathlib.Core.List.{List, [], ◌∷◌, ◌++◌}
use Prim.Native.Nat.{ℕ, suc, ◌+◌, ◌^◌, ◌≤◌, ◌<◌}
use native.Mathlib.Omega.{arith}
use lib.ListN.{length, length-append}
use Rattle.tlv.specs.Entries.{Entry}
use Rattle.text_writing.specs.Decimal.{decimal}
use Rattle.text_writing.proofs.Decimals.{length_below}
use Rattle.listing.specs.Listing.{pair_line, first_line, entry_lines, listing}

pub length_line : (a b : ℕ) → length (pair_line a b) ≡ length (decimal a) + length (decimal b) + 2
unfolding pair_line
length_line a b =
    let l = length-append (decimal a ++ (32 ∷ []) ++ decimal b) (10 ∷ []) in
    let m = length-append (decimal a ++ (32 ∷ [])) (decimal b) in
    let r = length-append (decimal a) (32 ∷ []) in
    omega arith

-- numbers of at most so many digits
pub line_below : (j k a b : ℕ) → a < 10 ^ suc j → b < 10 ^ suc k → length (pair_line a b) ≤ suc j + suc k + 2
line_below j k a b h l = omega (arith, length_line a b, length_below j a h, length_below k b l)

pub length_listing : (es : List Entry) → length (listing es) ≡ 9 + length (decimal (length es)) + length (entry_lines es)
unfolding listing first_line
length_listing es =
    omega (arith, length-append (decimal (length es) ++ (10 ∷ [])) (entry_lines es), length-append (decimal (length es)) (10 ∷ []))

-- one entry more, and none
pub lines_more : (e : Entry) (es : List Entry) → pair_line e.ty (length e.value) ++ entry_lines es ≡ entry_lines (e ∷ es)
unfolding entry_lines
lines_more e es = refl

pub lines_none : [] ≡ entry_lines []
unfolding entry_lines
lines_none = refl
