-- `base16::first_bad` meets its contract.
use mathlib.Core.Path.{◌≡◌, refl, sym, ◌∙◌}
use native.Mathlib.Omega.{arith}
use native.Mathlib.Nat.{zero-add}
use lib.ListN.{length}
use borrow.Author.Rules.{rules}
use borrow.Author.Tests.{not-true, not-false}
use Rattle.base16.proofs.Scans.{bad_next, bad_here, bad_end, bad_none}
use Rattle.base16.proofs.first_bad.Goals as goal

pub returns-then-all_digits : goal.returns-then-all_digits
returns-then-all_digits c = sym (bad_none _ 0 (sym c.all_digits.ensures ∙ c.if-all_digits.true) ∙ zero-add _)

pub loop-i-init : goal.loop-i-init
loop-i-init c = (search rules, refl)

pub returns-then-not-is_digit : goal.returns-then-not-is_digit
returns-then-not-is_digit c =
    sym (bad_here _ _ c.loop-i-test.true (sym c.is_digit.ensures ∙ not-true c.is_digit.result c.if-not-is_digit.true-raw)) ∙ c.loop-i.invariant.1

pub loop-i-preserved : goal.loop-i-preserved
loop-i-preserved c =
    (search rules, bad_next _ _ c.loop-i-test.true (sym c.is_digit.ensures ∙ not-false c.is_digit.result c.if-not-is_digit.false-raw) ∙ c.loop-i.invariant.1)

pub returns : goal.returns
returns c =
    let all : length c.args.text.now ≡ c.loop-i.i = omega arith in
    all ∙ sym (bad_end _ _ (omega arith)) ∙ c.loop-i.invariant.1
