-- `changes::chosen_extent` meets its contract. The invariant: what is counted, and what is chosen of the operations that are left, is what all take.
use mathlib.Core.Path.{◌≡◌}
use Prim.Native.Nat.{◌+◌}
use lib.ListN.{length}
use Rattle.change_lists.specs.Operations.{ops_of}
use Rattle.change_lists.specs.Walk.{left}
use Rattle.change_lists.proofs.Fits.{Fit}
use Rattle.tlv_writing.specs.Encode.{encode_all}
use Rattle.changes.proofs.Turns.{chosen_of}
use Rattle.changes.proofs.chosen_extent.Given as goal

abbrev pub invariant-loop-operation : goal.invariant-loop-operation
invariant-loop-operation l =
    (l.bytes + length (encode_all (chosen_of l.marks l.base (left l.operation-iterator))) ≡ length (encode_all (chosen_of l.marks l.base (ops_of l.list).ops)))
    × (l.entries + length (chosen_of l.marks l.base (left l.operation-iterator)) ≡ length (chosen_of l.marks l.base (ops_of l.list).ops))
    × Fit 0 (length l.list) (left l.operation-iterator)
