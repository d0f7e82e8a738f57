-- `EntryIter::next` meets its contract: what is left from a place on is the entry there and what is left after it, or nothing.
use mathlib.Core.Path.{ap}
use native.Mathlib.Omega.{arith}
use native.Mathlib.Nat.{add-sub_cancel_left}
use lib.ListN.{length}
use Rattle.tlv.proofs.Walks.{turn_inside}
use Rattle.tlv.proofs.Left.{left_entry, left_none}
use Rattle.tlv.proofs.walk.EntryIterIterator.next.Goals as goal

pub overflow_add-self : goal.overflow_add-self
overflow_add-self c = omega (arith, turn_inside _ _ _ c.frame_at.ensures _ _ _ c.in-Entry.is)

pub overflow_add-result : goal.overflow_add-result
overflow_add-result c = omega (arith, turn_inside _ _ _ c.frame_at.ensures _ _ _ c.in-Entry.is)

pub slice_bounds-result-end : goal.slice_bounds-result-end
slice_bounds-result-end c = omega (arith, turn_inside _ _ _ c.frame_at.ensures _ _ _ c.in-Entry.is)

pub returns-in-Entry-clause-steps : goal.returns-in-Entry-clause-steps
returns-in-Entry-clause-steps c = simp add-sub_cancel_left (left_entry _ _ _ c.frame_at.ensures _ _ _ c.in-Entry.is)

pub returns-in-Entry-clause-goes : goal.returns-in-Entry-clause-goes
returns-in-Entry-clause-goes c =
    let fewer = ap length (left_entry _ _ _ c.frame_at.ensures _ _ _ c.in-Entry.is) in
    record { on = λ f. (tt, tt, omega arith); keeps = tt; rests = λ f. tt }

pub returns-in_default : goal.returns-in_default
returns-in_default c =
    let none = left_none _ _ _ c.frame_at.ensures c.in_default.not-Entry in
    record { steps = (none, none); goes = record { on = λ f. tt; keeps = tt; rests = λ f. tt } }
