-- `plain_values::check_name` meets its contract.
use mathlib.Core.Path.{sym, ◌∙◌}
use Rattle.plain_values.proofs.Names.{name_is}
use Rattle.plain_values.proofs.check_name.Goals as goal

pub returns-then-is_utf8 : goal.returns-then-is_utf8
returns-then-is_utf8 c = name_is _ _ c.in_ok-check_bytes.ensures _ (sym c.is_utf8.ensures ∙ c.if-is_utf8.true)

pub returns : goal.returns
returns c = c.refuse.ensures ∙ name_is _ _ c.in_ok-check_bytes.ensures _ (sym c.is_utf8.ensures ∙ c.if-is_utf8.false)
