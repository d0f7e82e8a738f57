-- The laws of what a listing program prints: the text without its final newline, the line that tells a refusal, and that reading `report_reads` bytes
-- is enough.
-- Assumes nothing.
use mathlib.Core.Path.{◌≡◌, refl, sym, ap, ◌∙◌}
use mathlib.Core.List.{List, [], ◌∷◌}
use Prim.Native.Nat.{ℕ, ◌+◌, ◌-◌, ◌≤◌, ◌<◌}
use native.Mathlib.Omega.{arith}
use native.Mathlib.Nat.{sub-zero}
use lib.ListN.{length, take, get_or}
use lib.Seq.{take-length, take_all, length-take-le}
use lib.Dec.{ltb, eqb}
use borrow.Author.Tests.{eq-eqb, ne_eqb, ltb-true, ltb-false}
use Rattle.refusal.specs.Sizes.{most_digits}
use Rattle.refusal.specs.Answer.{Answer, refused, then_do}
use Rattle.laws.proofs.Tests.{by_test, pick_all}
use Rattle.base16.proofs.Decodes.{decoded_large}
use Rattle.listing.specs.Listing.{pair_line, hex_by, line_of, refused_line, told, report_by, report_reads}

module _ (x : List ℕ) where
  pub line_dropped : get_or x (length x - 1) 0 ≡ 10 → length (take (length x - 1) x) ≡ length (line_of x)
  unfolding line_of
  line_dropped h = simp (eq-eqb _ _ h)

  pub line_whole : (get_or x (length x - 1) 0 ≡ 10 → ⊥) → length x ≡ length (line_of x)
  unfolding line_of
  line_whole h = simp (ne_eqb _ _ h)

  -- the line is the start of the input
  pub line_start : (length (line_of x) ≤ length x) × (take (length (line_of x)) x ≡ line_of x)
  unfolding line_of
  line_start =
      pick_all (λ (l : List ℕ). (length l ≤ length x) × (take (length l) x ≡ l)) (eqb (get_or x (length x - 1) 0) 10) (take (length x - 1) x) x
      (λ e. let n = length-take-le (length x - 1) x (omega arith) in
      (omega arith, ap (λ (k : ℕ). take k x) n)) (λ e. (omega arith, take-length x))

-- the part from 0 to n
pub line_part : (x : List ℕ) (n : ℕ) → n ≡ length (line_of x) → take (n - 0) x ≡ line_of x
line_part x n e = ap (λ (k : ℕ). take k x) (sub-zero n ∙ e) ∙ (line_start x).1

pub line_none : (x : List ℕ) → length x < 1 → length x ≡ length (line_of x)
unfolding line_of
line_none [] h = refl
line_none (b ∷ x) h = absurd (omega arith)

pub length_refused : (n p : ℕ) → length (refused_line n p) ≡ 8 + length (pair_line n p)
unfolding refused_line
length_refused n p = omega arith

-- ---- what is printed for a text that is too long does not depend on the rest of it, nor on how its bytes would be listed

line_length : (x : List ℕ) → length x ≤ length (line_of x) + 1
unfolding line_of
line_length x =
    pick_all (λ (l : List ℕ). length x ≤ length l + 1) (eqb (get_or x (length x - 1) 0) 10) (take (length x - 1) x) x
    (λ e. omega (arith, length-take-le (length x - 1) x (omega arith))) (λ e. omega arith)

module _ (lists : List ℕ → Answer (List ℕ)) where
  report_large : (x : List ℕ) → most_digits + 1 < length x → report_by lists x ≡ told (refused 1 0 0)
  unfolding report_by hex_by
  report_large x h = ap (λ (a : Answer (List ℕ)). told (then_do a lists)) (sym (decoded_large (line_of x) (omega (arith, line_length x))))

  pub report_reads_lem : (x : List ℕ) → report_by lists x ≡ report_by lists (take report_reads x)
  report_reads_lem x =
      by_test (ltb report_reads (length x))
      (λ e. let long : length (take report_reads x) ≡ report_reads = length-take-le report_reads x (omega (arith, ltb-true)) in
      report_large x (omega (arith, ltb-true)) ∙ sym (report_large (take report_reads x) (omega arith)))
      (λ e. ap (report_by lists) (sym (take_all report_reads x (ltb-false _ _ e))))
