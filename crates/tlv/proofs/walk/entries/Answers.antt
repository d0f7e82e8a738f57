-- `tlv::entries` meets its contract.
use mathlib.Core.Path.{◌∙◌}
use Rattle.tlv.proofs.Left.{left_start}
use Rattle.tlv.proofs.walk.entries.Goals as goal

pub returns : goal.returns
returns c = c.entries_from.ensures ∙ left_start _
