-- `base16::is_digit` meets its contract.
use mathlib.Core.Path.{sym}
use native.Mathlib.Omega.{arith}
use Rattle.base16.proofs.Digits.{is_numeral, is_small, is_capital, is_none}
use Rattle.base16.proofs.is_digit.Goals as goal

pub returns-in-48-to-57 : goal.returns-in-48-to-57
returns-in-48-to-57 c = sym (is_numeral _ (omega arith) (omega arith))

pub returns-in-48-to-57-2 : goal.returns-in-48-to-57-2
returns-in-48-to-57-2 c = sym (is_capital _ (omega arith) (omega arith))

pub returns-in-48-to-57-3 : goal.returns-in-48-to-57-3
returns-in-48-to-57-3 c = sym (is_small _ (omega arith) (omega arith))

pub returns-in_default : goal.returns-in_default
returns-in_default c = sym (is_none _ (λ l h. omega arith) (λ l h. omega arith) (λ l h. omega arith))

pub returns-in_default-2 : goal.returns-in_default-2
returns-in_default-2 c = sym (is_none _ (λ l h. omega arith) (λ l h. omega arith) (λ l h. omega arith))

pub returns-in_default-3 : goal.returns-in_default-3
returns-in_default-3 c = sym (is_none _ (λ l h. omega arith) (λ l h. omega arith) (λ l h. omega arith))

pub returns-in_default-4 : goal.returns-in_default-4
returns-in_default-4 c = sym (is_none _ (λ l h. omega arith) (λ l h. omega arith) (λ l h. omega arith))
