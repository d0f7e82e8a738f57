-- `diag_writing::rows::put_children` meets its contract.
use Rattle.value_writing.specs.Encode.{child_bytes}
use Rattle.diag_writing.proofs.RowLoop.{rows_start, rows_need, rows_turn, rows_done}
use Rattle.diag_writing.proofs.rows.put_children.Goals as goal

pub loop-row-init : goal.loop-row-init
loop-row-init c = rows_start child_bytes c.args.rows.now c.args.at c.args.out.now

pub put_child-at-requires : goal.put_child-at-requires
put_child-at-requires c = rows_need child_bytes c.args.rows.now c.args.at c.args.out.now _ c.loop-row.row-index c.loop-row-test.true c.loop-row.at c.loop-row.out c.loop-row.invariant c.requires

pub loop-row-preserved : goal.loop-row-preserved
loop-row-preserved c =
    rows_turn child_bytes c.args.rows.now c.args.at c.args.out.now _ c.loop-row.row-index c.loop-row-test.true c.loop-row.at c.loop-row.out c.loop-row.invariant _ _ c.put_child-at.ensures.0 c.put_child-at.ensures.1

pub returns : goal.returns
returns c = rows_done child_bytes c.args.rows.now c.args.at c.args.out.now c.loop-row.row-index c.loop-row-test.false c.loop-row.at c.loop-row.out c.loop-row.invariant
