-- `network_walker::framing::rest_of` meets its contract: the part of s that is as long as what is left. Assumes nothing.
use Rattle.network_walker.proofs.Rests.{rest_part}
use Rattle.network_walker.proofs.framing.rest_of.Goals as goal

pub returns : goal.returns
returns c = rest_part _ _ c.rest_at.ensures
