-- `utf8::is_ascii` meets its contract. The invariant: what is known so far, and the bytes from i on, say what all say.
use mathlib.Core.Path.{refl, sym, ap, ◌∙◌}
use mathlib.Core.Bool.{Bool, ◌&&◌, and-true}
use borrow.Author.Rules.{rules}
use Rattle.utf8.proofs.Places.{one_next, one_end}
use Rattle.utf8.proofs.is_ascii.Goals as goal

pub loop-b-init : goal.loop-b-init
loop-b-init c = (search rules, refl)

pub loop-b-preserved : goal.loop-b-preserved
loop-b-preserved c =
    let l = c.loop-b in
    (search rules, one_next _ _ l.good c.loop-b-test.true ∙ l.invariant.1)

pub returns : goal.returns
returns c =
    let l = c.loop-b in
    sym (and-true l.good) ∙ ap (λ (b : Bool). l.good && b) (sym (one_end _ _ c.loop-b-test.false)) ∙ l.invariant.1
