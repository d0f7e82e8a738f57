-- `text_writing::put_decimal` calls itself at a tenth of n, which is smaller.
use Rattle.text_writing.proofs.+put_decimal.Given as goal

abbrev pub decreases-put_decimal : goal.decreases-put_decimal
decreases-put_decimal l = l.n
