-- `network_tables::records::fill` meets its contract: each turn stores the record at the cursor, which stands where the contract asks it to.
-- Assumes nothing.
use Rattle.std.proofs.Common.{◌≡◌, arith, sym, subst, length}
use Rattle.tables.proofs.Fills.{filling_none, filling_more, filling_all}
use Rattle.network_tables.proofs.records.fill.Goals as goal

pub loop-row-init : goal.loop-row-init
loop-row-init g c =
    let r = g.T.Record in
    let s = c.args.s.now in
    rw c.first-c.ensures (filling_none (r.read s) (r.after s) c.args.table.now (r.start s))

pub record-requires : goal.record-requires
record-requires g c = subst (g.T.Record.here c.args.s.now) (sym c.loop-row.invariant.cursor) (c.requires c.loop-row.row-index (omega arith))

pub next-c-requires : goal.next-c-requires
next-c-requires g c = subst (g.T.Record.here c.args.s.now) (sym c.loop-row.invariant.cursor) (c.requires c.loop-row.row-index (omega arith))

pub loop-row-preserved : goal.loop-row-preserved
loop-row-preserved g c = filling_more _ _ _ _ _ _ _ c.loop-row.invariant (omega arith) _ c.record.ensures _ c.next-c.ensures

pub returns : goal.returns
returns g c =
    let all : c.loop-row.row-index ≡ length c.args.table.now = omega arith in
    let r = g.T.Record in
    let s = c.args.s.now in
    filling_all (r.read s) (r.after s) c.args.table.now (r.start s) c.loop-row.row-items c.loop-row.c (rw (← all) c.loop-row.invariant)
