-- `address_reading::digit_value` meets its contract.
use native.Mathlib.Omega.{arith}
use Rattle.address_reading.proofs.Digits.{numeral_is, small_is, capital_is, other_is}
use Rattle.address_reading.proofs.digit_value.Goals as goal

pub returns-in-48-to-57 : goal.returns-in-48-to-57
returns-in-48-to-57 c = numeral_is _ (omega arith) (omega arith)

pub returns-in-65-to-70 : goal.returns-in-65-to-70
returns-in-65-to-70 c = capital_is _ (omega arith) (omega arith)

pub returns-in-97-to-102 : goal.returns-in-97-to-102
returns-in-97-to-102 c = small_is _ (omega arith) (omega arith)

pub returns-in_default : goal.returns-in_default
returns-in_default c = other_is _ (λ l h. omega arith) (λ l h. omega arith) (λ l h. omega arith)

pub returns-in_default-2 : goal.returns-in_default-2
returns-in_default-2 c = other_is _ (λ l h. omega arith) (λ l h. omega arith) (λ l h. omega arith)

pub returns-in_default-3 : goal.returns-in_default-3
returns-in_default-3 c = other_is _ (λ l h. omega arith) (λ l h. omega arith) (λ l h. omega arith)

pub returns-in_default-4 : goal.returns-in_default-4
returns-in_default-4 c = other_is _ (λ l h. omega arith) (λ l h. omega arith) (λ l h. omega arith)
