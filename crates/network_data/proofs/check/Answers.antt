-- `network_data::check` meets its contract: what the check counts is what the definition has. Assumes nothing.
use mathlib.Core.Path.{◌∙◌}
use Rattle.network_data.proofs.Counted.{counted, too_large}
use Rattle.network_data.proofs.check.Goals as goal

pub returns-then-value-gt-MAX_BYTES : goal.returns-then-value-gt-MAX_BYTES
returns-then-value-gt-MAX_BYTES c = c.refuse.ensures ∙ too_large _ _ c.if-value-gt-MAX_BYTES.true

pub returns : goal.returns
returns c = c.check_items.ensures ∙ counted _ _ c.if-value-gt-MAX_BYTES.false
