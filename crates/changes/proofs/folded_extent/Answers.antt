-- `changes::folded_extent` meets its contract.
use Rattle.changes.proofs.Results.{extent_made}
use Rattle.changes.proofs.folded_extent.Goals as goal

pub returns : goal.returns
returns c = extent_made _ _ _ _ _ _ c.count_removals-removals.ensures.0 c.chosen_extent-a.ensures.0 c.chosen_extent-b.ensures.0
