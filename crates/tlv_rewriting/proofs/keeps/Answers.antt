-- `tlv_rewriting::keeps` meets its contract.
use Rattle.tlv_rewriting.specs.Rewrite.{keeps_of}
use Rattle.tlv_rewriting.proofs.keeps.Goals as goal

pub returns-in-All : goal.returns-in-All
unfolding keeps_of
returns-in-All c = rw c.in-All.is

pub returns-in-Without : goal.returns-in-Without
unfolding keeps_of
returns-in-Without c = rw c.in-Without.is
