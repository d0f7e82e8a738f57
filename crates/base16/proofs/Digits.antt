-- What a character is: a digit of one of three ranges, with its value, or none.
-- Assumes nothing.
use mathlib.Core.Path.{◌≡◌, sym, ◌∙◌}
use mathlib.Core.Bool.{true, false, and-eq-true_iff, and-false, false≢true}
use Prim.Native.Nat.{ℕ, ◌+◌, ◌-◌, ◌%◌, ◌≤◌, ◌<◌}
use native.Mathlib.Omega.{arith}
use lib.Dec.{ltb, leb}
use borrow.Author.Tests.{leb-true, le-leb, lt-leb, ltb-true, ltb-false, lt-ltb, le-ltb}
use Rattle.refusal.specs.Answer.{pick, given, refused}
use Rattle.laws.proofs.Tests.{by_test}
use Rattle.hex_text.specs.HexText.{digit}
use Rattle.base16.specs.Base16.{between, digit_value}
use Rattle.base16.specs.Loops.{or_zero, is_given, is_digit, value_of}

module _ (low high c : ℕ) where
  within : low ≤ c → c ≤ high → between low high c ≡ true
  within l h = simp (le-leb _ _ l, le-leb _ _ h)

  below : c < low → between low high c ≡ false
  below h = simp (lt-leb _ _ h)

  above : high < c → between low high c ≡ false
  above h = rw (lt-leb _ _ h) (and-false (leb low c))

  bounds : between low high c ≡ true → (low ≤ c) × (c ≤ high)
  bounds e =
      let both = (and-eq-true_iff (leb low c) (leb c high)).0 e in
      (leb-true _ _ both.0, leb-true _ _ both.1)

-- the answer for a character, at any index
pub value_at : (at c : ℕ) → digit_value at c ≡ pick (is_digit c) (given (value_of c)) (refused 8 at 0)
unfolding digit_value is_digit is_given value_of or_zero
value_at at c =
    by_test (between 48 57 c) (λ e. simp e)
    (λ e. by_test (between 97 102 c) (λ f. simp (e, f))
    (λ f. by_test (between 65 70 c) (λ g. simp (e, f, g)) (λ g. simp (e, f, g))))

-- the three kinds of digits
data Kind (c : ℕ) : Type 0 where
  numeral : 48 ≤ c → c ≤ 57 → value_of c ≡ c - 48 → Kind c
  small : 97 ≤ c → c ≤ 102 → value_of c ≡ c - 87 → Kind c
  capital : 65 ≤ c → c ≤ 70 → value_of c ≡ c - 55 → Kind c

kind : (c : ℕ) → is_digit c ≡ true → Kind c
unfolding digit_value is_digit is_given value_of or_zero
kind c d =
    by_test (between 48 57 c) (λ e. let k = bounds 48 57 c e in numeral k.0 k.1 (simp e))
    (λ e. by_test (between 97 102 c) (λ f. let k = bounds 97 102 c f in small k.0 k.1 (simp (e, f)))
    (λ f. by_test (between 65 70 c) (λ g. let k = bounds 65 70 c g in capital k.0 k.1 (simp (e, f, g)))
    (λ g. absurd (false≢true (simp (e, f, g) at d)))))

module _ (c : ℕ) where
  pub is_numeral : 48 ≤ c → c ≤ 57 → is_digit c ≡ true
  unfolding digit_value is_digit is_given
  is_numeral l h = simp (within 48 57 c l h)

  pub is_small : 97 ≤ c → c ≤ 102 → is_digit c ≡ true
  unfolding digit_value is_digit is_given
  is_small l h = simp (above 48 57 c (omega arith), within 97 102 c l h)

  pub is_capital : 65 ≤ c → c ≤ 70 → is_digit c ≡ true
  unfolding digit_value is_digit is_given
  is_capital l h = simp (above 48 57 c (omega arith), below 97 102 c (omega arith), within 65 70 c l h)

  none_of : (48 ≤ c → c ≤ 57 → ⊥) → (97 ≤ c → c ≤ 102 → ⊥) → (65 ≤ c → c ≤ 70 → ⊥) → Kind c → ⊥
  none_of n s k (numeral l h e) = n l h
  none_of n s k (small l h e) = s l h
  none_of n s k (capital l h e) = k l h

  pub is_none : (48 ≤ c → c ≤ 57 → ⊥) → (97 ≤ c → c ≤ 102 → ⊥) → (65 ≤ c → c ≤ 70 → ⊥) → is_digit c ≡ false
  is_none n s k = by_test (is_digit c) (λ d. absurd (none_of n s k (kind c d))) (λ d. d)

numeral_value : (c : ℕ) → Kind c → c ≤ 57 → (48 ≤ c) × (c - 48 ≡ value_of c)
numeral_value c (numeral l h e) le = (l, sym e)
numeral_value c (small l h e) le = absurd (omega arith)
numeral_value c (capital l h e) le = absurd (omega arith)

letter_value : (c : ℕ) → Kind c → 57 < c → c % 16 + 9 ≡ value_of c
letter_value c (numeral l h e) gt = absurd (omega arith)
letter_value c (small l h e) gt = omega arith
letter_value c (capital l h e) gt = omega arith

small_value : (c : ℕ) → Kind c → value_of c < 16
small_value c (numeral l h e) = omega arith
small_value c (small l h e) = omega arith
small_value c (capital l h e) = omega arith

module _ (v : ℕ) where
  digit_low : v < 10 → digit v ≡ 48 + v
  unfolding digit
  digit_low h = simp (lt-ltb _ _ h)

  digit_high : 10 ≤ v → digit v ≡ 87 + v
  unfolding digit
  digit_high h = simp (le-ltb _ _ h)

lower_value : (c : ℕ) → Kind c → digit (value_of c) ≡ pick (between 65 70 c) (c + 32) c
lower_value c (numeral l h e) = rw (below 65 70 c (omega arith), digit_low (value_of c) (omega arith)) (omega arith)
lower_value c (small l h e) = rw (above 65 70 c (omega arith), digit_high (value_of c) (omega arith)) (omega arith)
lower_value c (capital l h e) = rw (within 65 70 c l h, digit_high (value_of c) (omega arith)) (omega arith)

-- a digit's value: as the code computes it, below 16, and written again
module _ (c : ℕ) (d : is_digit c ≡ true) where
  pub value_numeral : c ≤ 57 → (48 ≤ c) × (c - 48 ≡ value_of c)
  value_numeral = numeral_value c (kind c d)

  pub value_letter : 57 < c → c % 16 + 9 ≡ value_of c
  value_letter = letter_value c (kind c d)

  pub value_small : value_of c < 16
  value_small = small_value c (kind c d)

  pub value_lower : digit (value_of c) ≡ pick (between 65 70 c) (c + 32) c
  value_lower = lower_value c (kind c d)

  value_is : (at v : ℕ) → value_of c ≡ v → digit_value at c ≡ given v
  value_is at v e = value_at at c ∙ simp (d, e)

-- a digit that was written is read as its value
pub digit_value_lem : (at v : ℕ) → v < 16 → digit_value at (digit v) ≡ given v
digit_value_lem at v h =
    by_test (ltb v 10)
    (λ e. let low : v < 10 = ltb-true _ _ e in
    let d = is_numeral (48 + v) (omega arith) (omega arith) in
    rw (digit_low v low) (value_is (48 + v) d at v (omega (arith, value_numeral (48 + v) d (omega arith)))))
    (λ e. let high : 10 ≤ v = ltb-false _ _ e in
    let d = is_small (87 + v) (omega arith) (omega arith) in
    rw (digit_high v high) (value_is (87 + v) d at v (omega (arith, value_letter (87 + v) d (omega arith)))))
