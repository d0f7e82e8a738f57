-- `listing::put_refused` meets its contract: the word, the line.
use mathlib.Core.Path.{◌∙◌}
use Rattle.listing.specs.Listing.{refused_line}
use Rattle.text_writing.proofs.Lays.{laid_rest}
use Rattle.listing.proofs.put_refused.Goals as goal

pub returns : goal.returns
unfolding refused_line
returns c = c.put_line.ensures ∙ laid_rest _ _ _ _ _ c.put_text-word.ensures _
