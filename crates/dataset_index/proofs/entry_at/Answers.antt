-- `dataset_index::entry_at` meets its contract. Assumes nothing.
use mathlib.Core.Path.{◌∙◌}
use Rattle.refusal.proofs.Papers.{refuses_found}
use Rattle.dataset_index.proofs.Queries.{entry_hit, entry_miss, entry_cut, entry_end}
use Rattle.dataset_index.proofs.entry_at.Goals as goal

pub returns-then-t-ty : goal.returns-then-t-ty
returns-then-t-ty c = entry_hit _ _ _ _ c.frame_at.ensures _ _ _ c.in-Entry.is c.if-t-ty.true

pub returns-else-t-ty : goal.returns-else-t-ty
returns-else-t-ty c =
    refuses_found _ _ _ _ c.wrong_index.ensures ∙ entry_miss _ _ _ _ c.frame_at.ensures _ _ _ c.in-Entry.is c.if-t-ty.false

pub returns-in-Cut : goal.returns-in-Cut
returns-in-Cut c = refuses_found _ _ _ _ c.wrong_index-in-Cut.ensures ∙ entry_cut _ _ _ _ c.frame_at.ensures c.in-Cut.is

pub returns-in-End : goal.returns-in-End
returns-in-End c = refuses_found _ _ _ _ c.wrong_index-in-End.ensures ∙ entry_end _ _ _ _ c.frame_at.ensures c.in-End.is
