-- `diag_writing::lists::put_lists` meets its contract. The invariant: the lists that are left, stored from here on, make of the output what all of them make of it.
use Rattle.diag_writing.specs.Pieces.{list_entry}
use Rattle.diag_writing.proofs.RowLoop.{RowInv}
use Rattle.diag_writing.proofs.lists.put_lists.Given as goal

abbrev pub invariant-loop-x : goal.invariant-loop-x
invariant-loop-x l = RowInv (list_entry l.bytes) l.lists l.fn.at l.fn.out l.x-index l.at l.out
