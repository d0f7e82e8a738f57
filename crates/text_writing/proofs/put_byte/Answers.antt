-- `text_writing::put_byte` meets its contract: where there is no such place, a store changes nothing.
use mathlib.Core.Path.{◌≡◌, refl, sym}
use native.Mathlib.Omega.{arith}
use lib.Seq.{set_out}
use lib.Dec.{ltb}
use borrow.Author.Tests.{ltb-true, ltb-false}
use Rattle.laws.proofs.Tests.{by_test}
use Rattle.text_writing.specs.Laid.{last_place, place_after}
use Rattle.text_writing.proofs.Lays.{after_one, after_last, laid_byte}
use Rattle.text_writing.proofs.put_byte.Goals as goal

pub returns-then-at-out : goal.returns-then-at-out
returns-then-at-out c = laid_byte _ _ _ _ _ (after_one c.args.at (omega arith)) refl

pub returns : goal.returns
returns c =
    let a = c.args in
    let next : c.saturating_add.result ≡ place_after a.at =
    by_test (ltb a.at last_place)
    (λ t. omega (arith, c.saturating_add.ensures, after_one a.at (ltb-true a.at last_place t), ltb-true a.at last_place t))
    (λ t. omega (arith, c.saturating_add.ensures, after_last a.at (ltb-false a.at last_place t), ltb-false a.at last_place t)) in
    laid_byte _ _ _ _ _ next (sym (set_out a.out.now a.at a.b c.if-at-out.false))
