-- `diag_writing::rows::put_children` meets its contract. The invariant: the rows that are left, stored from here on, make of the output what all of them make of it.
use Rattle.value_writing.specs.Encode.{child_bytes}
use Rattle.diag_writing.proofs.RowLoop.{RowInv}
use Rattle.diag_writing.proofs.rows.put_children.Given as goal

abbrev pub invariant-loop-row : goal.invariant-loop-row
invariant-loop-row l = RowInv child_bytes l.rows l.fn.at l.fn.out l.row-index l.at l.out
