-- The laws of `paired`, the bytes of a text of digits: its length, a turn of the loop that stores it, and that it is what `digits` says.
-- Assumes nothing.
use mathlib.Core.Path.{◌≡◌, refl, sym}
use mathlib.Core.List.{List, [], ◌∷◌}
use Prim.Native.Nat.{ℕ, suc, ◌+◌, ◌*◌, ◌/◌, ◌%◌, ◌≤◌, ◌<◌}
use native.Mathlib.Omega.{arith}
use native.Mathlib.Numerals.{add-one}
use lib.ListN.{length, drop, get_or, set, length-drop}
use lib.Seq.{drop-cons}
use Rattle.refusal.specs.Answer.{pick, given, refused}
use Rattle.refusal.specs.Output.{put}
use Rattle.laws.proofs.Tests.{by_test}
use Rattle.laws.proofs.Puts.{put_none, put_byte}
use Rattle.base16.specs.Base16.{digits}
use Rattle.base16.specs.Loops.{is_digit, value_of, all_digits, first_bad, paired}
use Rattle.base16.proofs.Digits.{value_at}

pub length_paired : (x : List ℕ) → length (paired x) ≡ length x / 2
unfolding paired
length_paired [] = refl
length_paired (a ∷ []) = refl
length_paired (a ∷ b ∷ rest) = omega (arith, length_paired rest)

pub digits_are : (x : List ℕ) (at : ℕ) → length x % 2 ≡ 0 → digits at x ≡ pick (all_digits x) (given (paired x)) (refused 8 (first_bad at x) 0)
unfolding digits all_digits paired first_bad
digits_are [] at even = refl
digits_are (a ∷ []) at even = absurd (omega arith)
digits_are (a ∷ b ∷ rest) at even =
    let k : at + 1 + 1 ≡ at + 2 = omega arith in
    rw (value_at at a, value_at (at + 1) b, digits_are rest (at + 2) (omega arith), k)
    (by_test (is_digit a)
    (λ e. by_test (is_digit b) (λ f. by_test (all_digits rest) (λ g. simp (e, f, g)) (λ g. simp (e, f, g))) (λ f. simp (e, f)))
    (λ e. simp e))

two_more : (x : List ℕ) (k : ℕ) → k + 1 < length x → drop k x ≡ get_or x k 0 ∷ get_or x (k + 1) 0 ∷ drop (k + 1 + 1) x
two_more x k h =
    let l : k < length x = omega arith in
    let m : suc k < length x = omega arith in
    rw (add-one (k + 1), add-one k, drop-cons x k 0, drop-cons x (suc k) 0)

paired_short : (x : List ℕ) → length x ≤ 1 → paired x ≡ []
unfolding paired
paired_short [] h = refl
paired_short (a ∷ []) h = refl
paired_short (a ∷ b ∷ rest) h = absurd (omega arith)

module _ (text out : List ℕ) (i : ℕ) where
  pub pair_next : (hi lo : ℕ) → hi ≡ value_of (get_or text (2 * i) 0) → lo ≡ value_of (get_or text (2 * i + 1) 0) → 2 * i + 1 < length text
      → put (set out i (hi * 16 + lo)) (i + 1) (paired (drop (2 * (i + 1)) text)) ≡ put out i (paired (drop (2 * i) text))
  unfolding paired
  pair_next hi lo a b h =
      let k : 2 * (i + 1) ≡ 2 * i + 1 + 1 = omega arith in
      rw (a, b, k, two_more text (2 * i) h) (sym (put_byte _ _ _ _))

  pub pair_end : length text / 2 ≤ i → put out i (paired (drop (2 * i) text)) ≡ out
  pair_end h = rw (paired_short (drop (2 * i) text) (rw length-drop (omega arith))) (put_none _ _)
