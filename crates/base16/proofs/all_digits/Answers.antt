-- `base16::all_digits` meets its contract.
use mathlib.Core.Path.{refl, sym, ap, ◌∙◌}
use mathlib.Core.Bool.{Bool, ◌&&◌, and-true}
use borrow.Author.Rules.{rules}
use Rattle.base16.proofs.Scans.{all_next, all_end}
use Rattle.base16.proofs.all_digits.Goals as goal

pub loop-c-init : goal.loop-c-init
loop-c-init c = (search rules, refl)

pub loop-c-preserved : goal.loop-c-preserved
loop-c-preserved c =
    let l = c.loop-c in
    (search rules, all_next _ _ l.good _ c.is_digit-good.ensures c.loop-c-test.true ∙ l.invariant.1)

pub returns : goal.returns
returns c =
    let l = c.loop-c in
    sym (and-true l.good) ∙ ap (λ (b : Bool). l.good && b) (sym (all_end _ _ c.loop-c-test.false)) ∙ l.invariant.1
