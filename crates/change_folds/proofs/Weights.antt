-- A fold is no longer than its list, in operations and in bytes, and what a list sets is no longer as entries than the list.
-- Assumes nothing.
use mathlib.Core.Path.{◌≡◌, refl, ◌∙◌}
use mathlib.Core.List.{List, [], ◌∷◌, ◌++◌}
use Prim.Native.Nat.{ℕ, zero, suc, ◌+◌, ◌≤◌, zero-le}
use native.Mathlib.Omega.{arith}
use lib.Dec.{eqb}
use lib.ListN.{length, length-append}
use borrow.Author.Tests.{eqb-true, ne_eqb}
use Rattle.laws.proofs.Tests.{by_test}
use Rattle.tlv_writing.specs.Encode.{encode_all}
use Rattle.change_lists.specs.Operations.{Op, set, remove, encode_op, encode_ops}
use Rattle.change_folds.specs.Fold.{about, touches, lasts, sets_of, removes, removals_below, types, fold_all}
use Rattle.change_folds.proofs.Lasts.{puts}
use Rattle.change_folds.proofs.Folds.{removals_same}

-- what operations weigh in all, where w says what each weighs
unfoldable weight : (Op → ℕ) → List Op → ℕ
weight w [] = 0
weight w (o ∷ os) = w o + weight w os

module _ (w : Op → ℕ) where
  weight_append : (a b : List Op) → weight w (a ++ b) ≡ weight w a + weight w b
  unfolding weight
  weight_append [] b = omega arith
  weight_append (o ∷ a) b = omega (arith, weight_append a b)

  lasts_light : (os : List Op) → weight w (lasts os) ≤ weight w os
  unfolding weight lasts
  lasts_light [] = zero-le
  lasts_light (o ∷ os) =
      let less = lasts_light os in
      by_test (touches os (about o)) (λ e. rw e (omega arith)) (λ e. rw e (omega arith))

  -- one more operation that removes adds at most itself
  removals_more : (n u : ℕ) (os : List Op) → weight w (removals_below n (remove u ∷ os)) ≤ w (remove u) + weight w (removals_below n os)
  unfolding weight removals_below removes
  removals_more zero u os = zero-le
  removals_more (suc n) u os =
      let less = removals_more n u os in
      rw (weight_append (removals_below n (remove u ∷ os)), weight_append (removals_below n os))
      (by_test (eqb u n)
      (λ e.
      let at : u ≡ n = eqb-true u n e in
      let same = removals_same (remove u ∷ os) os n (λ t l. rw (ne_eqb u t (λ z. omega arith))) in
      rw (same, e, at) (omega arith))
      (λ e. rw e (omega arith)))

  removals_none : (n : ℕ) → weight w (removals_below n []) ≡ 0
  unfolding weight removals_below removes
  removals_none zero = refl
  removals_none (suc n) = weight_append (removals_below n []) [] ∙ rw (removals_none n)

  light : (n : ℕ) (os : List Op) → weight w (removals_below n os) + weight w (sets_of os) ≤ weight w os
  unfolding weight sets_of removes
  light n [] = omega (arith, removals_none n)
  light n (set c ∷ os) = rw (removals_same (set c ∷ os) os n (λ t l. refl)) (omega (arith, light n os))
  light n (remove u ∷ os) = omega (arith, light n os, removals_more n u os)

  sets_light : (os : List Op) → weight w (sets_of (lasts os)) ≤ weight w os
  sets_light os = omega (arith, light 0 (lasts os), lasts_light os)

  fold_light : (os : List Op) → weight w (fold_all os) ≤ weight w os
  unfolding fold_all
  fold_light os = rw (weight_append (removals_below types (lasts os))) (omega (arith, light types (lasts os), lasts_light os))

bytes_weigh : (os : List Op) → length (encode_ops os) ≡ weight (λ (o : Op). length (encode_op o)) os
unfolding encode_ops weight
bytes_weigh [] = refl
bytes_weigh (o ∷ os) = length-append (encode_op o) (encode_ops os) ∙ rw (bytes_weigh os)

count_weighs : (os : List Op) → length os ≡ weight (λ (o : Op). 1) os
unfolding weight
count_weighs [] = refl
count_weighs (o ∷ os) = omega (arith, count_weighs os)

pub fold_bytes : (os : List Op) → length (encode_ops (fold_all os)) ≤ length (encode_ops os)
fold_bytes os = rw (bytes_weigh (fold_all os), bytes_weigh os) (fold_light _ os)

pub fold_count : (os : List Op) → length (fold_all os) ≤ length os
fold_count os = rw (count_weighs (fold_all os), count_weighs os) (fold_light _ os)

-- a set is written with its mark, an entry without
puts_less : (os : List Op) → (length (encode_all (puts os)) ≤ length (encode_ops os)) × (length (puts os) ≤ length os)
unfolding puts encode_all encode_ops encode_op
puts_less [] = (zero-le, zero-le)
puts_less (set c ∷ os) =
    let less = puts_less os in
    (simp length-append (omega arith), omega arith)
puts_less (remove t ∷ os) = let less = puts_less os in (omega arith, omega arith)

pub sets_bytes : (os : List Op) → length (encode_all (puts (sets_of (lasts os)))) ≤ length (encode_ops os)
sets_bytes os =
    let less : length (encode_ops (sets_of (lasts os))) ≤ length (encode_ops os) = rw (bytes_weigh (sets_of (lasts os)), bytes_weigh os) (sets_light _ os) in
    omega (arith, (puts_less (sets_of (lasts os))).0)

pub sets_count : (os : List Op) → length (puts (sets_of (lasts os))) ≤ length os
sets_count os =
    let less : length (sets_of (lasts os)) ≤ length os = rw (count_weighs (sets_of (lasts os)), count_weighs os) (sets_light _ os) in
    omega (arith, (puts_less (sets_of (lasts os))).1)
