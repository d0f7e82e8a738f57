-- The cursor after so many turns, and the table with the first records in it.
use Rattle.tables.proofs.Fills.{Filling}
use Rattle.network_tables.proofs.records.fill.Given as goal

abbrev pub invariant-loop-row : goal.invariant-loop-row
invariant-loop-row g l =
    let r = g.T.Record in
    Filling (r.read l.s) (r.after l.s) l.fn.table (r.start l.s) l.row-index l.row-items l.c
