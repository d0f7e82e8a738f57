-- The laws of `decoded`, one for each return of `decode`.
-- Assumes nothing.
use mathlib.Core.Path.{◌≡◌, sym, ◌∙◌}
use mathlib.Core.Bool.{true, false}
use mathlib.Core.List.{List}
use Prim.Native.Nat.{ℕ, ◌%◌, ◌≤◌, ◌<◌}
use native.Mathlib.Omega.{arith}
use lib.ListN.{length}
use borrow.Author.Tests.{lt-ltb, le-ltb, eq-eqb, ne_eqb}
use Rattle.refusal.specs.Answer.{given, refused}
use Rattle.refusal.specs.Sizes.{most_digits}
use Rattle.base16.specs.Base16.{digits, decoded}
use Rattle.base16.specs.Loops.{all_digits, first_bad, paired}
use Rattle.base16.proofs.Pairs.{digits_are}

module _ (x : List ℕ) where
  pub decoded_large : most_digits < length x → refused 1 0 0 ≡ decoded x
  unfolding decoded
  decoded_large h = simp (lt-ltb _ _ h)

  module _ (small : length x ≤ most_digits) where
    pub decoded_odd : length x % 2 ≡ 1 → refused 7 0 0 ≡ decoded x
    unfolding decoded
    decoded_odd h = simp (le-ltb _ _ small, eq-eqb _ _ h)

    module _ (even : length x % 2 ≡ 1 → ⊥) where
      pub decoded_even : decoded x ≡ digits 0 x
      unfolding decoded
      decoded_even = simp (le-ltb _ _ small, ne_eqb _ _ even)

      pub decoded_bad : all_digits x ≡ false → refused 8 (first_bad 0 x) 0 ≡ decoded x
      decoded_bad bad = sym (decoded_even ∙ digits_are x 0 (omega arith) ∙ simp bad)

      pub decoded_good : all_digits x ≡ true → decoded x ≡ given (paired x)
      decoded_good good = decoded_even ∙ digits_are x 0 (omega arith) ∙ simp good
