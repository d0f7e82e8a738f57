-- `address_writing::leading` meets its contract.
use native.Mathlib.Omega.{arith}
use Rattle.address_forms.proofs.Texts.{no_leading, one_leading, two_leading, three_leading}
use Rattle.address_writing.proofs.leading.Goals as goal

pub returns-then-hi-ge16 : goal.returns-then-hi-ge16
returns-then-hi-ge16 c = (omega arith, no_leading _ _ (omega arith) (omega arith))

pub returns-then-hi-gt0 : goal.returns-then-hi-gt0
returns-then-hi-gt0 c = (omega arith, one_leading _ _ (omega arith) (omega arith) (omega arith))

pub returns-then-lo-ge16 : goal.returns-then-lo-ge16
returns-then-lo-ge16 c = (omega arith, two_leading _ _ (omega arith) (omega arith) (omega arith))

pub returns : goal.returns
returns c = (omega arith, three_leading _ _ (omega arith) (omega arith) (omega arith))
