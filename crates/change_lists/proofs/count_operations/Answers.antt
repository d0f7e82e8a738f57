-- `change_lists::count_operations` meets its contract. The invariant: counting on from the place at, with n operations passed, gives the answer.
-- The measure is what is left of the list.
use mathlib.Core.Path.{◌≡◌, sym, ap, ◌∙◌}
use Prim.Native.Nat.{◌≤◌}
use native.Mathlib.Omega.{arith}
use lib.ListN.{length}
use borrow.Author.Rules.{rules}
use borrow.Author.Tests.{lt-ltb, le-ltb}
use Rattle.refusal.specs.Sizes.{most_bytes}
use Rattle.refusal.specs.Answer.{refused}
use Rattle.refusal.specs.Results.{answer_of}
use Rattle.change_lists.specs.Operations.{operations}
use Rattle.change_lists.proofs.Places.{turn_end, turn_bad, turn_set, turn_removal, set_within, removal_inside}
use Rattle.change_lists.proofs.Counts.{tally, tally_start, tally_more, tally_end, tally_bad}
use Rattle.change_lists.proofs.count_operations.Goals as goal

pub returns-then-list-gt-MAX_BYTES : goal.returns-then-list-gt-MAX_BYTES
unfolding operations
returns-then-list-gt-MAX_BYTES c = simp (lt-ltb most_bytes _ c.if-list-gt-MAX_BYTES.true)

pub loop-start-init : goal.loop-start-init
unfolding operations
loop-start-init c =
    let short : length c.args.list.now ≤ most_bytes = omega arith in
    (search rules, search rules, simp (le-ltb _ _ short) (tally_start _ _))

pub returns-in-End : goal.returns-in-End
returns-in-End c =
    let end = turn_end _ _ _ c.operation_at.ensures c.in-End.is in
    let goes_on = ap (tally _ _ _) (sym end) ∙ c.loop-start.invariant.2 in
    c.stopped.ensures ∙ (sym (tally_end _ _ _) ∙ goes_on)

pub returns-in-Bad : goal.returns-in-Bad
returns-in-Bad c =
    let bad = turn_bad _ _ _ c.operation_at.ensures c.in-Bad.is in
    let goes_on = ap (tally _ _ _) (sym bad) ∙ c.loop-start.invariant.2 in
    let told : answer_of c.stopped-in-Bad.result ≡ refused 9 c.loop-start.at c.args.input = grind arith in
    told ∙ (sym (tally_bad _ _ _ _) ∙ goes_on)

pub overflow_add-n : goal.overflow_add-n
overflow_add-n c = omega (arith, set_within _ _ _ c.operation_at.ensures _ _ _ c.in-Set.is)

pub overflow_add-at : goal.overflow_add-at
overflow_add-at c = omega (arith, set_within _ _ _ c.operation_at.ensures _ _ _ c.in-Set.is)

pub loop-start-smaller-in-Set : goal.loop-start-smaller-in-Set
loop-start-smaller-in-Set c = omega (arith, set_within _ _ _ c.operation_at.ensures _ _ _ c.in-Set.is)

pub loop-start-preserved-in-Set : goal.loop-start-preserved-in-Set
loop-start-preserved-in-Set c =
    let inside = set_within _ _ _ c.operation_at.ensures _ _ _ c.in-Set.is in
    let more = turn_set _ _ _ c.operation_at.ensures _ _ _ c.in-Set.is in (
      inside.1,
      omega (arith, inside),
      sym (tally_more _ _ _ _ _ _ c.over_at-over.ensures) ∙ ap (tally _ _ _) (sym more) ∙ c.loop-start.invariant.2,
    )

pub overflow_add-n-in-Remove : goal.overflow_add-n-in-Remove
overflow_add-n-in-Remove c = omega (arith, removal_inside _ _ _ c.operation_at.ensures _ c.in-Remove.is)

pub overflow_add-at-in-Remove : goal.overflow_add-at-in-Remove
overflow_add-at-in-Remove c = omega (arith, removal_inside _ _ _ c.operation_at.ensures _ c.in-Remove.is)

pub loop-start-smaller : goal.loop-start-smaller
loop-start-smaller c = omega (arith, removal_inside _ _ _ c.operation_at.ensures _ c.in-Remove.is)

pub loop-start-preserved : goal.loop-start-preserved
loop-start-preserved c =
    let inside = removal_inside _ _ _ c.operation_at.ensures _ c.in-Remove.is in
    let more = turn_removal _ _ _ c.operation_at.ensures _ c.in-Remove.is in (
      inside,
      omega (arith, inside),
      sym (tally_more _ _ _ _ _ _ c.over_at-over-in-Remove.ensures) ∙ ap (tally _ _ _) (sym more) ∙ c.loop-start.invariant.2,
    )
