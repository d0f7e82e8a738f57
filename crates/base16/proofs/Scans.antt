-- The laws of the loops over a text, a character at a time.
-- Assumes nothing.
use mathlib.Core.Path.{◌≡◌, sym, ◌∙◌}
use mathlib.Core.Bool.{Bool, true, false, ◌&&◌, and_assoc, and-eq-true_iff}
use mathlib.Core.List.{List, [], ◌∷◌}
use Prim.Native.Nat.{ℕ, zero, suc, ◌+◌, ◌≤◌, ◌<◌}
use native.Mathlib.Omega.{arith}
use native.Mathlib.Nat.{le_of_suc-le-suc, not-suc-le-zero, add-zero}
use native.Mathlib.Numerals.{add-one}
use lib.ListN.{length, drop, get_or, drop_of_length-le}
use lib.Seq.{drop-cons}
use Rattle.laws.proofs.Tests.{by_test}
use Rattle.base16.specs.Loops.{is_digit, all_digits, first_bad}

module _ (text : List ℕ) (i : ℕ) where
  pub all_next : (good r : Bool) → r ≡ is_digit (get_or text i 0) → i < length text
      → (good && r && all_digits (drop (i + 1) text)) ≡ (good && all_digits (drop i text))
  unfolding all_digits
  all_next good r e h = rw (e, add-one i, drop-cons text i 0) (and_assoc good (is_digit (get_or text i 0)) (all_digits (drop (suc i) text)))

  pub all_end : length text ≤ i → all_digits (drop i text) ≡ true
  unfolding all_digits
  all_end h = rw (drop_of_length-le _ h)

  pub bad_next : i < length text → is_digit (get_or text i 0) ≡ true → first_bad (i + 1) (drop (i + 1) text) ≡ first_bad i (drop i text)
  unfolding first_bad
  bad_next h d = rw (add-one i, drop-cons text i 0) (simp (d, add-one))

  pub bad_here : i < length text → is_digit (get_or text i 0) ≡ false → first_bad i (drop i text) ≡ i
  unfolding first_bad
  bad_here h d = rw (drop-cons text i 0) (simp d)

  pub bad_end : length text ≤ i → first_bad i (drop i text) ≡ i
  unfolding first_bad
  bad_end h = rw (drop_of_length-le _ h)

pub all_parts : (c : ℕ) (cs : List ℕ) → all_digits (c ∷ cs) ≡ true → (is_digit c ≡ true) × (all_digits cs ≡ true)
unfolding all_digits
all_parts c cs all = (and-eq-true_iff (is_digit c) (all_digits cs)).0 all

pub all_at : (x : List ℕ) → all_digits x ≡ true → (k : ℕ) → k < length x → is_digit (get_or x k 0) ≡ true
all_at [] all k h = absurd (not-suc-le-zero h)
all_at (c ∷ cs) all zero h = (all_parts c cs all).0
all_at (c ∷ cs) all (suc k) h = all_at cs (all_parts c cs all).1 k (le_of_suc-le-suc h)

-- the search for a bad character ends with the text where each is a digit, and before it elsewhere
pub bad_none : (x : List ℕ) (k : ℕ) → all_digits x ≡ true → first_bad k x ≡ k + length x
unfolding first_bad
bad_none [] k all = sym (add-zero k)
bad_none (c ∷ cs) k all =
    let p = all_parts c cs all in
    let n : k + 1 + length cs ≡ k + suc (length cs) = omega arith in
    simp p.0 (bad_none cs (k + 1) p.1 ∙ n)

pub bad_some : (x : List ℕ) (k : ℕ) → all_digits x ≡ false → first_bad k x < k + length x
unfolding first_bad all_digits
bad_some [] k none = absurd (let z : ◌≡◌ {A = ℕ} 0 1 = cc in omega arith)
bad_some (c ∷ cs) k none =
    by_test (is_digit c) (λ d. rw d (let h = bad_some cs (k + 1) (simp d at none) in omega arith)) (λ d. rw d (omega arith))

module _ (x : List ℕ) where
  pub bad_tells : first_bad 0 x < length x → all_digits x ≡ false
  bad_tells h = by_test (all_digits x) (λ e. absurd (let n = bad_none x 0 e in omega arith)) (λ e. e)

  pub good_tells : length x ≤ first_bad 0 x → all_digits x ≡ true
  good_tells h = by_test (all_digits x) (λ e. e) (λ e. absurd (let n = bad_some x 0 e in omega arith))
