-- `tlv_rewriting::set_last` meets its contract: it is `put_last` where every entry of the type is removed.
use Rattle.tlv_rewriting.specs.Rewrite.{set_last, with_set}
use Rattle.tlv_rewriting.specs.Loops.{with_added}
use Rattle.tlv_rewriting.proofs.set_last.Goals as goal

pub returns : goal.returns
unfolding with_set set_last with_added
returns c = c.put_last.ensures
