-- `address_reading::next_digit` meets its contract.
use mathlib.Core.Path.{◌∙◌}
use native.Mathlib.Omega.{arith}
use Rattle.address_reading.proofs.Digits.{added_full, added_nibble}
use Rattle.address_reading.proofs.next_digit.Goals as goal

pub returns-then-n-eq4 : goal.returns-then-n-eq4
returns-then-n-eq4 c = added_full _ _ (omega arith)

pub returns : goal.returns
returns c = c.digit_value.ensures ∙ added_nibble _ _ (λ z. omega arith)
