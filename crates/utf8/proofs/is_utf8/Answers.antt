-- `utf8::is_utf8` meets its contract.
use mathlib.Core.Path.{sym, ◌∙◌}
use Rattle.utf8.proofs.Places.{ascii_all}
use Rattle.utf8.proofs.is_utf8.Goals as goal

pub returns-then-is_ascii : goal.returns-then-is_ascii
returns-then-is_ascii c = sym (ascii_all _ (sym c.is_ascii.ensures ∙ c.if-is_ascii.true))

pub returns : goal.returns
returns c = c.has_chars.ensures
