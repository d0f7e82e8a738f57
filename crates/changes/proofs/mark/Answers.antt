-- `changes::mark` meets its contract.
use Prim.Native.Nat.{◌+◌}
use native.Mathlib.Omega.{arith}
use lib.ListN.{length}
use borrow.Author.Rules.{rules}
use Rattle.change_lists.specs.Walk.{left}
use Rattle.change_lists.proofs.Fits.{fit_next, ops_fit}
use Rattle.changes.proofs.Turns.{going_start, going_set, going_removal, going_end}
use Rattle.changes.proofs.mark.Goals as goal

pub loop-operation-init : goal.loop-operation-init
loop-operation-init c =
    rw (c.into_iter-operation-iterator.ensures.into_iter_gives, c.operations-operation-items.ensures) (going_start _ _ _ c.requires.0, ops_fit _)

pub overflow_add-marks : goal.overflow_add-marks
overflow_add-marks c =
    let held = rw (c.in-Some.ensures.steps, c.in-Set.is) at c.loop-operation.invariant in
    omega (arith, c.requires, fit_next (c.in-Set.place + (4 + length c.in-Set.value.now)) (length c.args.list.now) (left c.next.new.self) held.1.1)

pub overflow_add-marks-in-Set : goal.overflow_add-marks-in-Set
overflow_add-marks-in-Set c =
    let held = rw (c.in-Some.ensures.steps, c.in-Set.is) at c.loop-operation.invariant in
    omega (arith, c.requires, fit_next (c.in-Set.place + (4 + length c.in-Set.value.now)) (length c.args.list.now) (left c.next.new.self) held.1.1)

pub loop-operation-preserved-in-Set : goal.loop-operation-preserved-in-Set
loop-operation-preserved-in-Set c =
    let held = rw (c.in-Some.ensures.steps, c.in-Set.is) at c.loop-operation.invariant in
    (going_set _ _ _ _ _ _ _ _ held.0 (search rules), (fit_next (c.in-Set.place + (4 + length c.in-Set.value.now)) (length c.args.list.now) (left c.next.new.self) held.1.1).1)

pub loop-operation-preserved : goal.loop-operation-preserved
loop-operation-preserved c =
    let held = rw (c.in-Some.ensures.steps, c.in-Remove.is) at c.loop-operation.invariant in
    (going_removal _ _ _ _ _ _ _ held.0 (search rules), (fit_next (c.in-Remove.place + 3) (length c.args.list.now) (left c.next.new.self) held.1.1).1)

pub returns : goal.returns
returns c = going_end _ _ _ _ (rw c.in-None.ensures.steps.0 at c.loop-operation.invariant).0
