-- `diag_writing::rows::put_routes` meets its contract. The invariant: the rows that are left, stored from here on, make of the output what all of them make of it.
use Rattle.network_writing.specs.Encode.{route_bytes}
use Rattle.diag_writing.proofs.RowLoop.{RowInv}
use Rattle.diag_writing.proofs.rows.put_routes.Given as goal

abbrev pub invariant-loop-row : goal.invariant-loop-row
invariant-loop-row l = RowInv route_bytes l.rows l.fn.at l.fn.out l.row-index l.at l.out
