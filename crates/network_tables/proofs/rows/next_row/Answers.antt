-- `network_tables::rows::next_row` meets its contract: in the same TLV, else in the same prefix, else in a later one. Assumes nothing.
use borrow.Author.Tests.{lt-ltb}
use Rattle.network_tables.specs.Cursor.{next_row}
use Rattle.network_tables.proofs.Seeks.{next_same, next_later}
use Rattle.network_tables.proofs.rows.next_row.Goals as goal

pub returns-then-c-gt1 : goal.returns-then-c-gt1
unfolding next_row
returns-then-c-gt1 c = simp (lt-ltb _ _ c.if-c-gt1.true)

pub returns-then-r-gt0 : goal.returns-then-r-gt0
returns-then-r-gt0 c = next_same _ _ _ c.args.c c.if-c-gt1.false _ c.seek_in-r.ensures c.if-r-gt0.true

pub returns : goal.returns
returns c = next_later _ _ _ c.args.c c.if-c-gt1.false _ c.seek_in-r.ensures c.if-r-gt0.false _ c.seek_out.ensures
