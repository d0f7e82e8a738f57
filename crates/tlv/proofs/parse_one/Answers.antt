-- `tlv::parse_one` meets its contract.
use mathlib.Core.Path.{◌∙◌}
use Rattle.tlv.proofs.Walks.{head_entry, head_none}
use Rattle.tlv.proofs.parse_one.Goals as goal

pub returns-in-Entry : goal.returns-in-Entry
returns-in-Entry c = head_entry _ _ c.frame_at.ensures _ _ _ c.in-Entry.is

pub returns-in_default : goal.returns-in_default
returns-in_default c = c.refuse.ensures ∙ head_none _ _ c.frame_at.ensures c.in_default.not-Entry
