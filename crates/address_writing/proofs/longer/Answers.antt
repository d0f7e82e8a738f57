-- `address_writing::longer` meets its contract.
use native.Mathlib.Omega.{arith}
use Rattle.address_forms.proofs.Runs.{longer_first, longer_second}
use Rattle.address_writing.proofs.longer.Goals as goal

pub returns-then-second-first : goal.returns-then-second-first
returns-then-second-first c = longer_first _ _ (omega (arith, c.if-second-first.true))

pub returns-else-second-first : goal.returns-else-second-first
returns-else-second-first c = longer_second _ _ (omega (arith, c.if-second-first.false))
