-- `changes::fold` meets its contract.
use Rattle.changes.proofs.Results.{fold_emits}
use Rattle.changes.proofs.fold.Goals as goal

pub returns : goal.returns
returns c = fold_emits _ _ _ c.fold_two.ensures
