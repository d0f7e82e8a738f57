-- `base16::value` meets its contract.
use native.Mathlib.Omega.{arith}
use borrow.Author.Rules.{rules}
use Rattle.base16.proofs.Digits.{value_numeral, value_letter, value_small}
use Rattle.base16.proofs.value.Goals as goal

pub overflow_sub-result : goal.overflow_sub-result
overflow_sub-result c = (value_numeral _ c.requires c.if-c-le57.true).0

pub returns-then-c-le57 : goal.returns-then-c-le57
returns-then-c-le57 c = ((value_numeral _ c.requires c.if-c-le57.true).1, search rules)

pub returns-else-c-le57 : goal.returns-else-c-le57
returns-else-c-le57 c =
    let e = value_letter _ c.requires c.if-c-le57.false in
    (e, omega (arith, value_small _ c.requires))
