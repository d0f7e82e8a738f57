-- `listing::put_lines` meets its contract.
use mathlib.Core.Path.{refl, ap, ◌∙◌}
use Rattle.text_writing.specs.Laid.{laid}
use Rattle.text_writing.proofs.Lays.{laid_none, laid_rest, laid_length}
use Rattle.listing.proofs.Lines.{lines_more, lines_none}
use Rattle.listing.proofs.put_lines.Goals as goal

pub loop-entry-init : goal.loop-entry-init
loop-entry-init c = rw (c.into_iter-entry-iterator.ensures.into_iter_gives, c.entries-entry-items.ensures) (refl, refl)

pub loop-entry-preserved : goal.loop-entry-preserved
loop-entry-preserved c =
    let held = rw c.in-Some.ensures.steps at c.loop-entry.invariant in
    let wrote = c.put_line-next.ensures in
    (laid_length _ _ _ _ _ wrote ∙ held.0, laid_rest _ _ _ _ _ wrote _ ∙ ap (laid _ _) (lines_more _ _) ∙ held.1)

pub returns : goal.returns
returns c =
    let held = rw c.in-None.ensures.steps.0 at c.loop-entry.invariant in
    laid_none _ _ ∙ ap (laid _ _) lines_none ∙ held.1
