-- The laws of `decimal`: one digit more, its length, and that it can be read back.
-- Assumes nothing.
use mathlib.Core.Path.{◌≡◌, refl, ap, ◌∙◌}
use mathlib.Core.List.{List, [], ◌∷◌, ◌++◌}
use Prim.Native.Nat.{ℕ, zero, suc, ◌+◌, ◌-◌, ◌*◌, ◌/◌, ◌%◌, ◌^◌, ◌≤◌, ◌<◌}
use native.Mathlib.Omega.{arith}
use native.Mathlib.Nat.{div-lt_iff_lt-mul, pow-suc}
use lib.ListN.{length, length-append}
use lib.Dec.{ltb}
use borrow.Author.Tests.{lt-ltb, le-ltb, ltb-true, ltb-false}
use Rattle.refusal.specs.Answer.{pick}
use Rattle.laws.proofs.Tests.{by_test, pick_all}
use Rattle.text_writing.specs.Decimal.{decimal_in, decimal}

-- the fuel makes no difference, where it is more than n
any_fuel : (k m n : ℕ) → n < k → n < m → decimal_in k n ≡ decimal_in m n
unfolding decimal_in
any_fuel zero m n h l = absurd (omega arith)
any_fuel (suc k) zero n h l = absurd (omega arith)
any_fuel (suc k) (suc m) n h l =
    by_test (ltb n 10)
    (λ e. rw e refl)
    (λ e. rw e (ap (λ (ds : List ℕ). ds ++ ((48 + n % 10) ∷ [])) (any_fuel k m (n / 10) (omega (arith, ltb-false)) (omega (arith, ltb-false)))))

-- THE STEP, with no fuel in it
decimal_step : (n : ℕ) → decimal n ≡ pick (ltb n 10) ((48 + n) ∷ []) (decimal (n / 10) ++ ((48 + n % 10) ∷ []))
unfolding decimal decimal_in
decimal_step n =
    by_test (ltb n 10)
    (λ e. rw e refl)
    (λ e. rw e (ap (λ (ds : List ℕ). ds ++ ((48 + n % 10) ∷ [])) (any_fuel n (suc (n / 10)) (n / 10) (omega (arith, ltb-false)) (omega arith))))

module _ (n : ℕ) where
  pub decimal_one : n < 10 → decimal n ≡ (48 + n) ∷ []
  decimal_one h = decimal_step n ∙ simp (lt-ltb _ _ h)

  pub decimal_more : 10 ≤ n → decimal n ≡ decimal (n / 10) ++ ((48 + n % 10) ∷ [])
  decimal_more h = decimal_step n ∙ simp (le-ltb _ _ h)

  pub length_one : n < 10 → length (decimal n) ≡ 1
  length_one h = ap length (decimal_one h)

  pub length_more : 10 ≤ n → length (decimal n) ≡ length (decimal (n / 10)) + 1
  length_more h = ap length (decimal_more h) ∙ length-append (decimal (n / 10)) _

-- a number below 10 to the power k + 1 has at most k + 1 digits
pub length_below : (k n : ℕ) → n < 10 ^ suc k → length (decimal n) ≤ suc k
length_below zero n h = omega (arith, length_one n h)
length_below (suc k) n h =
    by_test (ltb n 10)
    (λ e. omega (arith, length_one n (ltb-true _ _ e)))
    (λ e. omega (arith, length_more n (ltb-false _ _ e), length_below k (n / 10) ((div-lt_iff_lt-mul (omega arith)).1 (rw pow-suc at h))))

in_fuel : (k n : ℕ) → length (decimal_in k n) ≤ k
unfolding decimal_in
in_fuel zero n = omega arith
in_fuel (suc k) n =
    pick_all (λ (ds : List ℕ). length ds ≤ suc k) (ltb n 10) ((48 + n) ∷ []) (decimal_in k (n / 10) ++ ((48 + n % 10) ∷ []))
    (λ e. omega arith) (λ e. omega (arith, length-append (decimal_in k (n / 10)) ((48 + n % 10) ∷ []), in_fuel k (n / 10)))

-- a number n has at most n + 1 digits
pub length_few : (n : ℕ) → length (decimal n) ≤ suc n
unfolding decimal
length_few n = in_fuel (suc n) n

-- ---- decimal digits can be read back, so that different numbers have different text

number_from : ℕ → List ℕ → ℕ
number_from x [] = x
number_from x (d ∷ ds) = number_from (x * 10 + (d - 48)) ds

-- the number that decimal digits spell
pub number : List ℕ → ℕ
number ds = number_from 0 ds

number_more : (ds : List ℕ) (x d : ℕ) → number_from x (ds ++ (d ∷ [])) ≡ number_from x ds * 10 + (d - 48)
unfolding number_from
number_more [] x d = refl
number_more (e ∷ ds) x d = number_more ds (x * 10 + (e - 48)) d

reads_back : (k n : ℕ) → n < k → number (decimal n) ≡ n
unfolding number number_from
reads_back zero n h = absurd (omega arith)
reads_back (suc k) n h =
    by_test (ltb n 10)
    (λ e. ap number (decimal_one n (ltb-true _ _ e)) ∙ omega arith)
    (λ e. ap number (decimal_more n (ltb-false _ _ e)) ∙ number_more (decimal (n / 10)) 0 (48 + n % 10)
    ∙ omega (arith, reads_back k (n / 10) (omega (arith, ltb-false))))

pub number_decimal : (n : ℕ) → number (decimal n) ≡ n
number_decimal n = reads_back (suc n) n (omega arith)
