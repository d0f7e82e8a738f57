-- `changes::put_chosen` meets its contract. The invariant: what is left to write, stored from here on, makes of out what all the sets make of it.
use mathlib.Core.Path.{◌≡◌}
use Prim.Native.Nat.{◌+◌}
use lib.ListN.{length}
use Rattle.refusal.specs.Output.{put}
use Rattle.change_lists.specs.Operations.{ops_of}
use Rattle.change_lists.specs.Walk.{left}
use Rattle.change_lists.proofs.Fits.{Fit}
use Rattle.changes.specs.Loops.{encode_sets}
use Rattle.changes.proofs.Turns.{chosen_of}
use Rattle.changes.proofs.put_chosen.Given as goal

abbrev pub invariant-loop-operation : goal.invariant-loop-operation
invariant-loop-operation l = (length l.out ≡ length l.initial.out)
    × (l.to + length (encode_sets l.marked (chosen_of l.marks l.base (left l.operation-iterator))) ≡ l.from + length (encode_sets l.marked (chosen_of l.marks l.base (ops_of l.list).ops)))
    × (put l.out l.to (encode_sets l.marked (chosen_of l.marks l.base (left l.operation-iterator))) ≡ put l.initial.out l.from (encode_sets l.marked (chosen_of l.marks l.base (ops_of l.list).ops)))
    × Fit 0 (length l.list) (left l.operation-iterator)
