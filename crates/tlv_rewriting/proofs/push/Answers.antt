-- `tlv_rewriting::push` meets its contract: it is `put_last` where nothing is removed.
use Rattle.tlv_rewriting.specs.Rewrite.{pushed, with_pushed}
use Rattle.tlv_rewriting.specs.Loops.{with_added}
use Rattle.tlv_rewriting.proofs.push.Goals as goal

pub returns : goal.returns
unfolding with_pushed pushed with_added
returns c = c.put_last.ensures
