-- `address_reading::take_groups` meets its contract.
use mathlib.Core.Path.{sym, ◌∙◌}
use borrow.Author.Tests.{eqb-true}
use Rattle.address_reading.proofs.Turns.{taken_empty}
use Rattle.address_reading.proofs.take_groups.Goals as goal

pub returns-then-is_empty : goal.returns-then-is_empty
returns-then-is_empty c = taken_empty _ _ (eqb-true _ _ (sym c.is_empty.ensures ∙ c.if-is_empty.true))
