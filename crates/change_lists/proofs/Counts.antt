-- The count of operations from a state of the loop on: n are passed, over is the place of the first past the most where that one is passed, and st and
-- os are how the list goes on. And what a caller of `count_operations` learns.
-- Assumes nothing.
use mathlib.Core.Path.{◌≡◌, refl, sym, ap, ◌∙◌, subst}
use mathlib.Core.Bool.{Bool, true, false}
use mathlib.Core.List.{List, ◌∷◌}
use Prim.Native.Nat.{ℕ, suc, ◌+◌, ◌-◌, ◌≤◌}
use native.Mathlib.Omega.{arith}
use native.Mathlib.Nat.{zero-add, add-zero}
use lib.Dec.{ltb, eqb}
use lib.ListN.{length, get_or}
use borrow.Author.Tests.{lt-ltb, le-ltb, ltb-true, ltb-false, eqb-true, eqb-false}
use Rattle.refusal.specs.Sizes.{most_bytes, most_entries}
use Rattle.refusal.specs.Answer.{pick, Answer, given, absent, refused, on_given, then_do}
use Rattle.laws.proofs.Tests.{by_test}
use Rattle.tlv.specs.Entries.{Stop, clean, cut_at}
use Rattle.change_lists.specs.Operations.{remove, OpAt, op_at, Listed, ends_with, after, ops_of, place_of_next_op, limited_ops, operations}
use Rattle.change_lists.proofs.Reading.{ops_from, ops_start}
use Rattle.change_lists.proofs.Given.{Read, was_given}

module _ (i : ℕ) where
  tally_by : ℕ → ℕ → Stop → List OpAt → Answer ℕ
  tally_by n over (cut_at p) os = refused 9 p i
  tally_by n over clean os =
      pick (ltb most_entries (n + length os)) (refused 3 (pick (ltb most_entries n) over (get_or os (most_entries - n) (op_at 0 (remove 0))).place) i) (given (n + length os))

  pub tally : ℕ → ℕ → Listed → Answer ℕ
  tally n over w = tally_by n over w.stop w.ops

  pick_length : (b : Bool) (p : ℕ) (os : List OpAt) → pick b (refused 3 p i) (given (length os)) ≡ on_given length (pick b (refused 3 p i) (given os))
  pick_length true p os = refl
  pick_length false p os = refl

  start_by : (st : Stop) (os : List OpAt) → tally_by 0 0 st os ≡ on_given length (limited_ops most_entries i st os)
  unfolding tally_by limited_ops
  start_by (cut_at p) os = refl
  start_by clean os = simp zero-add (pick_length (ltb most_entries (length os)) (place_of_next_op most_entries os) os)

  pub tally_start : (s : List ℕ) → tally 0 0 (ops_from s 0) ≡ on_given length (limited_ops most_entries i (ops_of s).stop (ops_of s).ops)
  unfolding tally
  tally_start s = ap (tally 0 0) (ops_start s) ∙ start_by (ops_of s).stop (ops_of s).ops

  module _ (n over : ℕ) where
    -- one operation more
    more_by : (o : OpAt) (st : Stop) (os : List OpAt) → tally_by n over st (o ∷ os) ≡ tally_by (n + 1) (pick (eqb n most_entries) o.place over) st os
    unfolding tally_by
    more_by o (cut_at p) os = refl
    more_by o clean os =
        let k : n + suc (length os) ≡ n + 1 + length os = omega arith in
        by_test (eqb n most_entries)
        (λ e.
        let z : most_entries - n ≡ 0 = omega (arith, eqb-true n most_entries e) in
        simp (k, z, e, le-ltb most_entries n (omega (arith, eqb-true n most_entries e)), lt-ltb most_entries (n + 1) (omega (arith, eqb-true n most_entries e))))
        (λ e.
        let apart = eqb-false n most_entries e in
        by_test (ltb n most_entries)
        (λ l.
        let z : most_entries - n ≡ suc (most_entries - (n + 1)) = omega (arith, ltb-true) in
        simp (k, z, e, le-ltb most_entries n (omega (arith, ltb-true)), le-ltb most_entries (n + 1) (omega (arith, ltb-true))))
        (λ l. simp (k, e, lt-ltb most_entries n (omega (arith, ltb-false)), lt-ltb most_entries (n + 1) (omega (arith, ltb-false)))))

    pub tally_more : (o : OpAt) (w : Listed) (next : ℕ) → next ≡ pick (eqb n most_entries) o.place over → tally n over (after o w) ≡ tally (n + 1) next w
    unfolding tally
    tally_more o w next e = rw e (more_by o w.stop w.ops)

    -- no operation more
    pub tally_end : tally n over (ends_with clean) ≡ pick (ltb most_entries n) (refused 3 over i) (given n)
    unfolding tally tally_by
    tally_end = simp add-zero (by_test (ltb most_entries n) (λ e. simp e) (λ e. simp e))

    -- an operation that is none
    pub tally_bad : (p : ℕ) → tally n over (ends_with (cut_at p)) ≡ refused 9 p i
    unfolding tally tally_by
    tally_bad p = refl

  -- ---- what a caller of `count_operations` learns: the refusal is its own answer, or it goes on with all the operations

  given_by : (s : List ℕ) (n : ℕ) (a : Answer (List OpAt)) → operations i s ≡ a → given n ≡ on_given length a → Read s (ops_of s).ops × (a ≡ given (ops_of s).ops)
  given_by s n (given os) e c =
      let r = was_given i s os e in
      (subst (Read s) (sym r.are) r, ap given (sym r.are))
  given_by s n absent e c = absurd (let z : ◌≡◌ {A = ℕ} 0 1 = cc in omega arith)
  given_by s n (refused x y z) e c = absurd (let z : ◌≡◌ {A = ℕ} 0 1 = cc in omega arith)

  module _ (s : List ℕ) (n : ℕ) (counted : given n ≡ on_given length (operations i s)) where
    pub counted_given : operations i s ≡ given (ops_of s).ops
    counted_given = (given_by s n (operations i s) refl counted).1

    pub counted_short : length s ≤ most_bytes
    counted_short = (given_by s n (operations i s) refl counted).0.short

  module _ {B : Type 0} (f : List OpAt → Answer B) where
    refused_by : (a : Answer (List OpAt)) (n p k : ℕ) → refused n p k ≡ on_given length a → refused n p k ≡ then_do a f
    refused_by (given xs) n p k e = absurd (let z : ◌≡◌ {A = ℕ} 0 1 = cc in omega arith)
    refused_by absent n p k e = absurd (let z : ◌≡◌ {A = ℕ} 0 1 = cc in omega arith)
    refused_by (refused x y z) n p k e = cc

    pub counted_refused : (s : List ℕ) (n p k : ℕ) → refused n p k ≡ on_given length (operations i s) → refused n p k ≡ then_do (operations i s) f
    counted_refused s n p k e = refused_by (operations i s) n p k e
