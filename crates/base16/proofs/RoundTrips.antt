-- Decoding what was encoded gives the bytes, and encoding what was decoded gives the text in lower case; and what a caller may know of
-- decoded bytes: how many they are, and that each is below 256.
-- Assumes nothing.
use mathlib.Core.Path.{◌≡◌, refl, ap, ◌∙◌}
use mathlib.Core.Bool.{true}
use mathlib.Core.List.{List, [], ◌∷◌}
use Prim.Native.Nat.{ℕ, ◌+◌, ◌*◌, ◌/◌, ◌%◌, ◌≤◌}
use native.Mathlib.Omega.{arith}
use lib.Dec.{ltb, eqb}
use lib.ListN.{length}
use borrow.Author.Tests.{ltb-true, ltb-false, eqb-true, eqb-false}
use Rattle.refusal.specs.Answer.{Answer, given, refused}
use Rattle.refusal.specs.Sizes.{most_bytes, most_digits}
use Rattle.laws.proofs.Tests.{by_test}
use Rattle.refusal.specs.Every.{Bytes}
use Rattle.hex_text.specs.HexText.{hex_text}
use Rattle.hex_text.proofs.Texts.{length_text}
use Rattle.base16.specs.Base16.{digits, decoded, lowered}
use Rattle.base16.specs.Loops.{value_of, all_digits, paired}
use Rattle.base16.proofs.Digits.{value_small, value_lower, digit_value_lem}
use Rattle.base16.proofs.Scans.{all_parts}
use Rattle.base16.proofs.Pairs.{length_paired}
use Rattle.base16.proofs.Decodes.{decoded_large, decoded_odd, decoded_even, decoded_bad, decoded_good}

-- what holds of a text that is decoded
record Decoded (x bs : List ℕ) : Type 0 where
  short : length x ≤ most_digits
  even : length x % 2 ≡ 0
  all : all_digits x ≡ true
  bytes : paired x ≡ bs

-- a refusal gives no bytes
never : {G : Type 0} (a : Answer (List ℕ)) (n p i : ℕ) (bs : List ℕ) → refused n p i ≡ a → a ≡ given bs → G
never a n p i bs r e = absurd (let z : ◌≡◌ {A = ℕ} 0 1 = cc in omega arith)

was_decoded : (x bs : List ℕ) → decoded x ≡ given bs → Decoded x bs
was_decoded x bs e =
    by_test (ltb most_digits (length x)) (λ large. never _ _ _ _ bs (decoded_large x (ltb-true _ _ large)) e)
    (λ l. let short = ltb-false _ _ l in
    by_test (eqb (length x % 2) 1) (λ odd. never _ _ _ _ bs (decoded_odd x short (eqb-true _ _ odd)) e)
    (λ o. let even = eqb-false _ _ o in
    by_test (all_digits x)
    (λ all. let same : paired x ≡ bs = cc (decoded_good x short even all) in
    record { short = short; even = omega arith; all = all; bytes = same })
    (λ bad. never _ _ _ _ bs (decoded_bad x short even bad) e)))

-- ---- encode, then decode

digits_text : (bs : List ℕ) (at : ℕ) → Bytes bs → digits at (hex_text bs) ≡ given bs
unfolding digits hex_text
digits_text [] at small = refl
digits_text (b ∷ bs) at (small, rest) =
    let same : b / 16 * 16 + b % 16 ≡ b = omega arith in
    rw (digit_value_lem at (b / 16) (omega arith), digit_value_lem (at + 1) (b % 16) (omega arith), digits_text bs (at + 2) rest) (rw same)

pub decoded_text : (bs : List ℕ) → Bytes bs → 2 * length bs ≤ most_digits → decoded (hex_text bs) ≡ given bs
decoded_text bs small fits =
    decoded_even (hex_text bs) (omega (arith, length_text bs)) (λ odd. omega (arith, length_text bs)) ∙ digits_text bs 0 small

-- ---- decode, then encode

paired_text : (x : List ℕ) → length x % 2 ≡ 0 → all_digits x ≡ true → hex_text (paired x) ≡ lowered x
unfolding all_digits paired hex_text lowered
paired_text [] even all = refl
paired_text (a ∷ []) even all = absurd (omega arith)
paired_text (a ∷ b ∷ rest) even all =
    let first = all_parts a (b ∷ rest) all in
    let second = all_parts b rest first.1 in
    let hi : (value_of a * 16 + value_of b) / 16 ≡ value_of a = omega (arith, value_small b second.0) in
    let lo : (value_of a * 16 + value_of b) % 16 ≡ value_of b = omega (arith, value_small b second.0) in
    rw (hi, lo, value_lower a first.0, value_lower b second.0, paired_text rest (omega arith) second.1)

pub text_decoded : (x bs : List ℕ) → decoded x ≡ given bs → hex_text bs ≡ lowered x
text_decoded x bs e =
    let w = was_decoded x bs e in
    rw (← w.bytes) (paired_text x w.even w.all)

-- ---- what was decoded

pub length_decoded : (x bs : List ℕ) → decoded x ≡ given bs → length bs + length bs ≡ length x
length_decoded x bs e =
    let w = was_decoded x bs e in
    omega (arith, ap length w.bytes, length_paired x)

pub decoded_fits : (x bs : List ℕ) → decoded x ≡ given bs → length bs ≤ most_bytes
decoded_fits x bs e = omega (arith, (was_decoded x bs e).short, length_decoded x bs e)

every_paired : (x : List ℕ) → all_digits x ≡ true → Bytes (paired x)
unfolding all_digits paired
every_paired [] all = tt
every_paired (a ∷ []) all = tt
every_paired (a ∷ b ∷ rest) all =
    let first = all_parts a (b ∷ rest) all in
    let second = all_parts b rest first.1 in
    (omega (arith, value_small a first.0, value_small b second.0), every_paired rest second.1)

pub decoded_bytes : (x bs : List ℕ) → decoded x ≡ given bs → Bytes bs
decoded_bytes x bs e =
    let w = was_decoded x bs e in
    rw (← w.bytes) (every_paired x w.all)
