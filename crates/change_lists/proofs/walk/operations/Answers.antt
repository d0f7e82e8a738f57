-- `change_lists::operations` meets its contract.
use Rattle.change_lists.proofs.Left.{left_start}
use Rattle.change_lists.proofs.walk.operations.Goals as goal

pub returns : goal.returns
returns c = left_start _
