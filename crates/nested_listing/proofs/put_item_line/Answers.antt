-- `nested_listing::put_item_line` meets its contract: the spaces, then the line of two numbers.
use mathlib.Core.Path.{◌∙◌}
use Rattle.text_writing.proofs.Lays.{laid_rest}
use Rattle.nested_listing.specs.Tree.{item_line}
use Rattle.nested_listing.proofs.put_item_line.Goals as goal

pub returns : goal.returns
unfolding item_line
returns c = c.put_line.ensures ∙ laid_rest _ _ _ _ _ c.put_indent-first.ensures _
