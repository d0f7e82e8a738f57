-- `changes::put_chosen` meets its contract.
use mathlib.Core.Path.{refl, sym, ap, ◌∙◌}
use Prim.Native.Nat.{◌+◌}
use native.Mathlib.Omega.{arith}
use native.Mathlib.Nat.{add-zero}
use lib.ListN.{length}
use Rattle.refusal.specs.Output.{put}
use Rattle.laws.proofs.Puts.{put_none, put_then}
use Rattle.change_lists.specs.Walk.{left}
use Rattle.change_lists.proofs.Fits.{fit_next, ops_fit}
use Rattle.changes.specs.Loops.{encode_sets}
use Rattle.changes.proofs.Turns.{chosen_set, chosen_not, chosen_other, chosen_none, chosen_all}
use Rattle.changes.proofs.Writes.{sets_none, sets_more, sets_length_more}
use Rattle.changes.proofs.put_chosen.Goals as goal

pub loop-operation-init : goal.loop-operation-init
loop-operation-init c =
    rw (c.into_iter-operation-iterator.ensures.into_iter_gives, c.operations-operation-items.ensures) (refl, refl, refl, ops_fit _)

pub overflow_add-base : goal.overflow_add-base
overflow_add-base c =
    let held = rw (c.in-Some.ensures.steps, c.in-Set.is) at c.loop-operation.invariant in
    omega (arith, c.requires, fit_next (c.in-Set.place + (4 + length c.in-Set.value.now)) (length c.args.list.now) (left c.next.new.self) held.3.1)

pub overflow_add-base-in-Set : goal.overflow_add-base-in-Set
overflow_add-base-in-Set c =
    let held = rw (c.in-Some.ensures.steps, c.in-Set.is) at c.loop-operation.invariant in
    omega (arith, c.requires, fit_next (c.in-Set.place + (4 + length c.in-Set.value.now)) (length c.args.list.now) (left c.next.new.self) held.3.1)

pub put_set-to-requires : goal.put_set-to-requires
put_set-to-requires c =
    let held = rw (c.in-Some.ensures.steps, c.in-Set.is) at c.loop-operation.invariant in
    let more = chosen_set c.args.marks c.args.base (left c.next.new.self) _ _ c.in-Set.value.now c.if-marks-ty.true in
    let room = rw (← chosen_all _ _ _) at c.requires.2 in
    (omega (arith, c.requires, fit_next (c.in-Set.place + (4 + length c.in-Set.value.now)) (length c.args.list.now) (left c.next.new.self) held.3.1), omega (arith, sets_length_more c.args.marked _ _ _ more, room, held.0, held.1))

pub loop-operation-preserved-then-marks-ty : goal.loop-operation-preserved-then-marks-ty
loop-operation-preserved-then-marks-ty c =
    let held = rw (c.in-Some.ensures.steps, c.in-Set.is) at c.loop-operation.invariant in
    let more = chosen_set c.args.marks c.args.base (left c.next.new.self) _ _ c.in-Set.value.now c.if-marks-ty.true in
    let told = c.put_set-to.ensures in (
      c.put_set-to.auto.out ∙ held.0,
      omega (arith, sets_length_more c.args.marked _ _ _ more, told.0, held.1),
      put_then _ _ _ _ _ _ told.1 told.0 ∙ ap (put _ _) (sym (ap (encode_sets _) more ∙ sets_more _ _ _)) ∙ held.2,
      (fit_next (c.in-Set.place + (4 + length c.in-Set.value.now)) (length c.args.list.now) (left c.next.new.self) held.3.1).1,
    )

pub loop-operation-preserved-else-marks-ty : goal.loop-operation-preserved-else-marks-ty
loop-operation-preserved-else-marks-ty c =
    let held = rw (c.in-Some.ensures.steps, c.in-Set.is) at c.loop-operation.invariant in
    let skip = ap (encode_sets c.args.marked) (sym (chosen_not c.args.marks c.args.base (left c.next.new.self) _ _ c.in-Set.value.now c.if-marks-ty.false)) in
    (held.0, ap (λ bs. c.loop-operation.to + length bs) skip ∙ held.1, ap (put _ _) skip ∙ held.2, (fit_next (c.in-Set.place + (4 + length c.in-Set.value.now)) (length c.args.list.now) (left c.next.new.self) held.3.1).1)

pub loop-operation-preserved : goal.loop-operation-preserved
loop-operation-preserved c =
    let held = rw c.in-Some.ensures.steps at c.loop-operation.invariant in
    let skip = ap (encode_sets c.args.marked) (sym (chosen_other c.args.marks c.args.base (left c.next.new.self) _ c.in_default.not-Set)) in
    (held.0, ap (λ bs. c.loop-operation.to + length bs) skip ∙ held.1, ap (put _ _) skip ∙ held.2, (fit_next _ (length c.args.list.now) (left c.next.new.self) held.3.1).1)

pub returns : goal.returns
returns c =
    let a = c.args in
    let held = rw (c.in-None.ensures.steps.0, chosen_none, sets_none) at c.loop-operation.invariant in
    let all = ap (encode_sets a.marked) (chosen_all a.marks a.base a.list.now) in
    (sym (add-zero _) ∙ held.1 ∙ ap (λ bs. a.from + length bs) all, sym (put_none _ _) ∙ held.2 ∙ ap (put _ _) all)
