-- `listing::put_line` meets its contract: the first number, a space, the second number, a newline.
use mathlib.Core.Path.{◌∙◌}
use Rattle.listing.specs.Listing.{pair_line}
use Rattle.text_writing.proofs.Lays.{laid_rest}
use Rattle.listing.proofs.put_line.Goals as goal

pub returns : goal.returns
unfolding pair_line
returns c =
    let space = c.put_byte-second.ensures ∙ laid_rest _ _ _ _ _ c.put_decimal-space.ensures _ in
    let second = c.put_decimal-end.ensures ∙ laid_rest _ _ _ _ _ space _ in
    c.put_byte.ensures ∙ laid_rest _ _ _ _ _ second _
