-- `diag_writing::lists::put_lists` meets its contract.
use Rattle.diag_writing.specs.Pieces.{list_entry, ListLies}
use Rattle.diag_writing.proofs.RowLoop.{every_at, rows_start, rows_need, rows_turn, rows_done}
use Rattle.diag_writing.proofs.lists.put_lists.Goals as goal

pub loop-x-init : goal.loop-x-init
loop-x-init c = rows_start (list_entry c.args.bytes.now) c.args.lists.now c.args.at c.args.out.now

pub put_list-at-requires : goal.put_list-at-requires
put_list-at-requires c = (
  every_at (ListLies c.args.bytes.now) c.args.lists.now c.loop-x.x-index _ c.loop-x-test.true c.requires.0,
  rows_need (list_entry c.args.bytes.now) c.args.lists.now c.args.at c.args.out.now _ c.loop-x.x-index c.loop-x-test.true c.loop-x.at c.loop-x.out c.loop-x.invariant c.requires.1,
)

pub loop-x-preserved : goal.loop-x-preserved
loop-x-preserved c =
    rows_turn (list_entry c.args.bytes.now) c.args.lists.now c.args.at c.args.out.now _ c.loop-x.x-index c.loop-x-test.true c.loop-x.at c.loop-x.out c.loop-x.invariant _ _ c.put_list-at.ensures.0 c.put_list-at.ensures.1

pub returns : goal.returns
returns c = rows_done (list_entry c.args.bytes.now) c.args.lists.now c.args.at c.args.out.now c.loop-x.x-index c.loop-x-test.false c.loop-x.at c.loop-x.out c.loop-x.invariant
