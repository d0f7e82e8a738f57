-- `nested_listing::put_indent` meets its contract: a part of four spaces.
use mathlib.Core.Path.{ap, ◌∙◌}
use Rattle.text_writing.specs.Laid.{laid}
use Rattle.nested_listing.proofs.Turns.{blanks}
use Rattle.nested_listing.proofs.put_indent.Goals as goal

pub returns : goal.returns
returns c = c.put_text.ensures ∙ ap (laid _ _) (blanks _ c.requires)
