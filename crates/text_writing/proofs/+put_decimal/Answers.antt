-- `text_writing::put_decimal` meets its contract: a number of one digit is that digit, and any other a tenth of it and then its last digit.
use mathlib.Core.Path.{sym, ap, ◌∙◌}
use Rattle.text_writing.specs.Laid.{laid}
use Rattle.text_writing.proofs.Decimals.{decimal_one, decimal_more}
use Rattle.text_writing.proofs.Lays.{laid_rest}
use Rattle.text_writing.proofs.+put_decimal.Goals as goal

pub returns-then-n-lt10 : goal.returns-then-n-lt10
returns-then-n-lt10 t c = c.put_byte.ensures ∙ ap (laid _ _) (sym (decimal_one c.args.n c.if-n-lt10.true))

pub returns : goal.returns
returns t c = c.put_byte-2.ensures ∙ laid_rest _ _ _ _ _ c.put_decimal-last.ensures _ ∙ ap (laid _ _) (sym (decimal_more c.args.n c.if-n-lt10.false))
