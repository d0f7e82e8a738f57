-- `nested_listing::put_cut_line` meets its contract: the spaces, then the word and a newline.
use mathlib.Core.Path.{◌∙◌}
use Rattle.text_writing.proofs.Lays.{laid_rest}
use Rattle.nested_listing.specs.Tree.{cut_line}
use Rattle.nested_listing.proofs.put_cut_line.Goals as goal

pub returns : goal.returns
unfolding cut_line
returns c = c.put_text.ensures ∙ laid_rest _ _ _ _ _ c.put_indent-word.ensures _
