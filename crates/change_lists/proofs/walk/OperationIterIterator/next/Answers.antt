-- `OperationIter::next` meets its contract: what is left from a place on is the operation there and what is left after it, or nothing.
use mathlib.Core.Path.{ap}
use native.Mathlib.Omega.{arith}
use native.Mathlib.Nat.{add-sub_cancel_left}
use lib.ListN.{length}
use Rattle.change_lists.proofs.Places.{set_within, removal_inside}
use Rattle.change_lists.proofs.Left.{left_set, left_removal, left_none}
use Rattle.change_lists.proofs.walk.OperationIterIterator.next.Goals as goal

pub overflow_add-self : goal.overflow_add-self
overflow_add-self c = omega (arith, set_within _ _ _ c.operation_at.ensures _ _ _ c.in-Set.is)

pub overflow_add-result : goal.overflow_add-result
overflow_add-result c = omega (arith, set_within _ _ _ c.operation_at.ensures _ _ _ c.in-Set.is)

pub slice_bounds-result-end : goal.slice_bounds-result-end
slice_bounds-result-end c = omega (arith, set_within _ _ _ c.operation_at.ensures _ _ _ c.in-Set.is)

pub returns-in-Set-clause-steps : goal.returns-in-Set-clause-steps
returns-in-Set-clause-steps c = simp add-sub_cancel_left (left_set _ _ _ c.operation_at.ensures _ _ _ c.in-Set.is)

pub returns-in-Set-clause-goes : goal.returns-in-Set-clause-goes
returns-in-Set-clause-goes c =
    let fewer = ap length (left_set _ _ _ c.operation_at.ensures _ _ _ c.in-Set.is) in
    record { on = λ f. (tt, tt, omega arith); keeps = tt; rests = λ f. tt }

pub returns-in-Remove-clause-steps : goal.returns-in-Remove-clause-steps
returns-in-Remove-clause-steps c = left_removal _ _ _ c.operation_at.ensures _ c.in-Remove.is

pub returns-in-Remove-clause-goes : goal.returns-in-Remove-clause-goes
returns-in-Remove-clause-goes c =
    let fewer = ap length (left_removal _ _ _ c.operation_at.ensures _ c.in-Remove.is) in
    record { on = λ f. (tt, tt, omega arith); keeps = tt; rests = λ f. tt }

pub overflow_add-self-in-Remove : goal.overflow_add-self-in-Remove
overflow_add-self-in-Remove c = omega (arith, removal_inside _ _ _ c.operation_at.ensures _ c.in-Remove.is)

pub returns-in_default : goal.returns-in_default
returns-in_default c =
    let none = left_none _ _ _ c.operation_at.ensures c.in_default.not-Set c.in_default.not-Remove in
    record { steps = (none, none); goes = record { on = λ f. tt; keeps = tt; rests = λ f. tt } }
