-- `pair_rule::counts` meets its contract.
use Rattle.pair_rule.specs.Pairing.{counts}
use Rattle.pair_rule.proofs.counts.Goals as goal

pub returns : goal.returns
unfolding counts
returns c = rw (c.parent_of-2.ensures, c.parent_of.ensures)
