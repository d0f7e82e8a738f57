-- `changes::mark` meets its contract. The invariant: what the operations that are left leave is what all leave, and they lie within the list.
use lib.ListN.{length}
use Rattle.change_lists.specs.Walk.{left}
use Rattle.change_lists.proofs.Fits.{Fit}
use Rattle.changes.specs.Loops.{ops_after}
use Rattle.changes.proofs.Turns.{Going}
use Rattle.changes.proofs.mark.Given as goal

abbrev pub invariant-loop-operation : goal.invariant-loop-operation
invariant-loop-operation l =
    Going l.marks l.initial.marks l.base (left l.operation-iterator) (ops_after l.base l.list) × Fit 0 (length l.list) (left l.operation-iterator)
