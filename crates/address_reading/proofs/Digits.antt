-- The value of a character, and the digit that it adds to a field.
-- Assumes nothing.
use mathlib.Core.Path.{◌≡◌, sym, ◌∙◌}
use mathlib.Core.Bool.{true, false}
use Prim.Native.Nat.{ℕ, ◌-◌, ◌≤◌}
use native.Mathlib.Omega.{arith}
use lib.Dec.{eqb}
use borrow.Author.Tests.{eqb-true, eqb-false, eq-eqb, ne_eqb}
use Rattle.laws.proofs.Tests.{by_test}
use Rattle.base16.specs.Loops.{is_digit, value_of}
use Rattle.base16.proofs.Digits.{is_numeral, is_small, is_capital, is_none, value_numeral, value_letter, value_small}
use Rattle.address_reading.specs.Loops.{nibble, added}

module _ (c : ℕ) where
  nibble_digit : is_digit c ≡ true → nibble c ≡ value_of c
  unfolding nibble
  nibble_digit d = rw d

  nibble_none : is_digit c ≡ false → nibble c ≡ 16
  unfolding nibble
  nibble_none d = rw d

  pub none_nibble : nibble c ≡ 16 → is_digit c ≡ false
  none_nibble e = by_test (is_digit c) (λ d. absurd (omega (arith, nibble_digit d, value_small c d))) (λ d. d)

  digit_nibble : (nibble c ≡ 16 → ⊥) → is_digit c ≡ true
  digit_nibble e = by_test (is_digit c) (λ d. d) (λ d. absurd (e (nibble_none d)))

  pub numeral_is : 48 ≤ c → c ≤ 57 → c - 48 ≡ nibble c
  numeral_is l h =
      let d = is_numeral c l h in
      (value_numeral c d h).1 ∙ sym (nibble_digit d)

  pub small_is : 97 ≤ c → c ≤ 102 → c - 87 ≡ nibble c
  small_is l h =
      let d = is_small c l h in
      omega (arith, nibble_digit d, value_letter c d (omega arith))

  pub capital_is : 65 ≤ c → c ≤ 70 → c - 55 ≡ nibble c
  capital_is l h =
      let d = is_capital c l h in
      omega (arith, nibble_digit d, value_letter c d (omega arith))

  pub other_is : (48 ≤ c → c ≤ 57 → ⊥) → (97 ≤ c → c ≤ 102 → ⊥) → (65 ≤ c → c ≤ 70 → ⊥) → 16 ≡ nibble c
  other_is n s k = sym (nibble_none (is_none c n s k))

-- ---- a digit more

module _ (n c : ℕ) where
  pub added_full : n ≡ 4 → 16 ≡ added n c
  unfolding added
  added_full e = rw (eq-eqb n 4 e)

  pub added_nibble : (n ≡ 4 → ⊥) → nibble c ≡ added n c
  unfolding added
  added_nibble e = rw (ne_eqb n 4 e)

-- what is known of a character that adds a digit
pub record Adds (n c d : ℕ) : Type 0 where
  pub room : n ≡ 4 → ⊥
  pub digit : is_digit c ≡ true
  pub is : d ≡ value_of c

pub adds : (n c d : ℕ) → d ≡ added n c → (d ≡ 16 → ⊥) → Adds n c d
adds n c d told some =
    by_test (eqb n 4) (λ e. absurd (some (told ∙ sym (added_full n c (eqb-true n 4 e)))))
    (λ e. let none = eqb-false n 4 e in
    let same = told ∙ sym (added_nibble n c none) in
    let digit = digit_nibble c (λ z. some (same ∙ z)) in
    record { room = none; digit = digit; is = same ∙ nibble_digit c digit })
