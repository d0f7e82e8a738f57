-- `speed::filled::rows_of` meets its contract.
use Rattle.speed.specs.Filled.{rows_of}
use Rattle.speed.proofs.filled.rows_of.Goals as goal

pub returns : goal.returns
unfolding rows_of
returns c = simp (c.one_child-child.ensures, c.one_list-list.ensures)
