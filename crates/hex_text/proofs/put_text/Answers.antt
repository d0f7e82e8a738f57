-- `hex_text::put_text` meets its contract. The invariant: the text of the bytes from i on, stored from 2 * i on, makes of out what the whole text makes of it.
use mathlib.Core.Path.{refl, sym, ◌∙◌}
use native.Mathlib.Omega.{arith}
use lib.ListN.{length-set}
use borrow.Author.Rules.{rules}
use Rattle.hex_text.proofs.Texts.{text_next, text_end}
use Rattle.hex_text.proofs.put_text.Goals as goal

pub loop-i-init : goal.loop-i-init
loop-i-init c = (search rules, refl, refl)

pub digit_of-requires : goal.digit_of-requires
digit_of-requires c = omega (arith, c.type_inv.bytes c.loop-i.i)

pub bounds-out-i-in-loop-i : goal.bounds-out-i-in-loop-i
bounds-out-i-in-loop-i c = simp length-set (omega arith)

pub loop-i-preserved : goal.loop-i-preserved
loop-i-preserved c =
    let l = c.loop-i in
    (search rules, simp length-set l.invariant.1, text_next _ _ _ _ _ c.digit_of.ensures c.digit_of-in-loop-i.ensures c.loop-i-test.true ∙ l.invariant.2)

pub shape_of-out : goal.shape_of-out
shape_of-out c = c.loop-i.invariant.1

pub returns : goal.returns
returns c = sym (text_end _ _ _ c.loop-i-test.false) ∙ c.loop-i.invariant.2
