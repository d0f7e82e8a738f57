-- A fold has at most one operation for each type, so that with 256 operations or more it is never refused for their number: 10 is left for its bytes.
-- Assumes nothing.
use mathlib.Core.Path.{◌≡◌}
use mathlib.Core.Bool.{Bool}
use mathlib.Core.List.{List, [], ◌∷◌, ◌++◌}
use Prim.Native.Nat.{ℕ, zero, suc, ◌+◌, ◌≤◌, ◌<◌}
use native.Mathlib.Omega.{arith}
use lib.ListN.{length, length-append}
use lib.Dec.{ltb, eqb}
use borrow.Author.Tests.{eqb-true, eqb-false, le-ltb}
use Rattle.refusal.specs.Sizes.{most_bytes, most_entries}
use Rattle.refusal.specs.Answer.{pick, given, refused}
use Rattle.refusal.specs.Every.{Every}
use Rattle.laws.proofs.Tests.{by_test}
use Rattle.laws.proofs.Bits.{bit_small}
use Rattle.laws.proofs.Parts.{every_parts, every_append}
use Rattle.change_lists.specs.Operations.{Op, set, remove, bare, encode_ops}
use Rattle.change_lists.proofs.Given.{input_alike}
use Rattle.change_folds.specs.Fold.{about, touches, lasts, sets_of, removes, removals_below, types, fold_all, sized_ops, folded_two}
use Rattle.change_folds.specs.Demand.{Changes}
use Rattle.change_folds.proofs.Limits.{typed, ops_within}
use Rattle.change_folds.proofs.Folds.{every_fold, Typed}

abbrev bit : Bool → ℕ
bit b = pick b 1 0

-- how many operations are about a type, and about a type below n
times : (ty : ℕ) → List Op → ℕ
times t [] = 0
times t (o ∷ os) = bit (eqb (about o) t) + times t os

below : (n : ℕ) → List Op → ℕ
below zero os = 0
below (suc n) os = below n os + times n os

-- "each type's last operation only"
once : (t : ℕ) (os : List Op) → times t (lasts os) ≤ bit (touches os t)
unfolding times lasts touches
once t [] = omega arith
once t (o ∷ os) =
    let rest = once t os in
    by_test (touches os (about o))
    (λ e. by_test (eqb (about o) t)
    (λ f. rw (e, f) (by_test (touches os t) (λ g. let h = rw g at rest in omega arith) (λ g. let h = rw g at rest in omega arith)))
    (λ f. rw (e, f) rest))
    (λ e. by_test (eqb (about o) t)
    (λ f. let none = rw (eqb-true (about o) t f) at e in let h = rw none at rest in rw (e, f) (omega arith))
    (λ f. rw (e, f) (omega arith)))

-- each of them is a removal or a set
split : (t : ℕ) (os : List Op) → bit (removes os t) + times t (sets_of os) ≤ times t os
unfolding times removes sets_of about
split t [] = omega arith
split t (set c ∷ os) = omega (arith, split t os)
split t (remove u ∷ os) =
    let rest = split t os in
    by_test (eqb u t)
    (λ f. rw f (by_test (removes os t) (λ g. let h = rw g at rest in omega arith) (λ g. let h = rw g at rest in omega arith)))
    (λ f. rw f (omega arith))

-- so that below n there are at most n
module _ (os : List Op) where
  few_below : (n : ℕ) → length (removals_below n (lasts os)) + below n (sets_of (lasts os)) ≤ n
  unfolding below removals_below
  few_below zero = omega arith
  few_below (suc n) =
      let rest = few_below n in
      let l = length-append (removals_below n (lasts os)) (pick (removes (lasts os) n) (remove n ∷ []) []) in
      let one = once n os in
      let two = split n (lasts os) in
      let top = bit_small (touches os n) in
      by_test (removes (lasts os) n)
      (λ e. let l' = rw e at l in let two' = rw e at two in rw e (omega arith))
      (λ e. let l' = rw e at l in let two' = rw e at two in rw e (omega arith))

more_below : (n : ℕ) (o : Op) (os : List Op) → below n os ≤ below n (o ∷ os)
unfolding below times
more_below zero o os = omega arith
more_below (suc n) o os = omega (arith, more_below n o os)

one_below : (n : ℕ) (o : Op) (os : List Op) → about o < n → suc (below n os) ≤ below n (o ∷ os)
unfolding below times
one_below zero o os h = absurd (omega arith)
one_below (suc n) o os h =
    by_test (eqb (about o) n)
    (λ e. rw e (omega (arith, more_below n o os)))
    (λ e. let apart = eqb-false (about o) n e in rw e (omega (arith, one_below n o os (omega arith))))

all_below : (n : ℕ) (os : List Op) → Every (λ (o : Op). about o < n) os → length os ≤ below n os
all_below n [] h = omega arith
all_below n (o ∷ os) h = omega (arith, all_below n os h.1, one_below n o os h.0)

pub fold_types : (os : List Op) → Typed os → length (fold_all os) ≤ types
unfolding fold_all about
fold_types os g =
    let e = every_fold (λ (o : Op). about o < types) os (λ t l. l) g in
    let s = (every_parts (λ (o : Op). about o < types) (removals_below types (lasts os)) (sets_of (lasts os)) e).1 in
    let l = length-append (removals_below types (lasts os)) (sets_of (lasts os)) in
    omega (arith, few_below os types, all_below types (sets_of (lasts os)) s)

-- "10 by count can no longer occur": two lists within the limits are refused only where the folded bytes are over the size
pub types_few : types ≤ most_entries
unfolding types
types_few = omega arith

fold_by_bytes : (os : List Op) → Typed os
    → sized_ops (fold_all os) ≡ pick (ltb most_bytes (length (encode_ops (fold_all os)))) (refused 10 0 0) (given (encode_ops (fold_all os)))
unfolding sized_ops
fold_by_bytes os g = rw (le-ltb most_entries (length (fold_all os)) (omega (arith, fold_types os g, types_few)))

module _ {a b : List ℕ} (c : Changes a) (d : Changes b) where
  -- what the two lists do, folded
  abbrev pub both : List Op
  both = fold_all (bare c.ops ++ bare d.ops)

  pub two_by_bytes : folded_two a b ≡ pick (ltb most_bytes (length (encode_ops both))) (refused 10 0 0) (given (encode_ops both))
  unfolding folded_two
  two_by_bytes =
      let first = typed (bare c.ops) (ops_within c).writable in
      let second = typed (bare d.ops) (ops_within d).writable in
      rw (c.within, input_alike 0 1 b d.ops d.within)
      (fold_by_bytes (bare c.ops ++ bare d.ops) (every_append (λ (o : Op). about o < types) (bare c.ops) (bare d.ops) first second))
