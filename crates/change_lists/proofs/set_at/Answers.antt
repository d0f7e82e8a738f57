-- `change_lists::set_at` meets its contract.
use mathlib.Core.Path.{sym, ap, ◌∙◌}
use Rattle.change_lists.specs.Place.{set_at}
use Rattle.change_lists.proofs.Places.{set_none}
use Rattle.change_lists.proofs.set_at.Goals as goal

pub returns-in-Entry : goal.returns-in-Entry
unfolding set_at
returns-in-Entry c = ap set_at (sym c.in-Entry.is ∙ c.frame_at.ensures)

pub returns-in_default : goal.returns-in_default
returns-in_default c = set_none _ c.in_default.not-Entry ∙ ap set_at c.frame_at.ensures
