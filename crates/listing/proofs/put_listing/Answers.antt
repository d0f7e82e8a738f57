-- `listing::put_listing` meets its contract: the word, the count, a newline, the lines.
use mathlib.Core.Path.{◌∙◌}
use Rattle.text_writing.proofs.Lays.{laid_rest}
use Rattle.listing.specs.Listing.{first_line, listing}
use Rattle.listing.proofs.put_listing.Goals as goal

pub returns : goal.returns
unfolding listing first_line
returns c =
    let count = c.put_decimal-end.ensures ∙ laid_rest _ _ _ _ _ c.put_text-word.ensures _ in
    let first = c.put_byte-first.ensures ∙ laid_rest _ _ _ _ _ count _ in
    rw (← c.requires) (c.put_lines.ensures ∙ laid_rest _ _ _ _ _ first _)
