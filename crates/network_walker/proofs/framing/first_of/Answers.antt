-- `network_walker::framing::first_of` meets its contract: the step from the first byte to the last. Assumes nothing.
use native.Mathlib.Omega.{arith}
use Rattle.network_walker.proofs.Rests.{first_is}
use Rattle.network_walker.proofs.framing.first_of.Goals as goal

pub returns : goal.returns
returns c = first_is _ _ _ _ c.sub_in.ensures (omega arith) (omega arith)
