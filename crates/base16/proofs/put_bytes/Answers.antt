-- `base16::put_bytes` meets its contract.
use mathlib.Core.Path.{refl, sym, ◌∙◌}
use native.Mathlib.Omega.{arith}
use lib.ListN.{length-set}
use borrow.Author.Rules.{rules}
use Rattle.base16.proofs.Scans.{all_at}
use Rattle.base16.proofs.Pairs.{pair_next, pair_end}
use Rattle.base16.proofs.put_bytes.Goals as goal

pub loop-i-init : goal.loop-i-init
loop-i-init c = (search rules, refl, refl)

pub bounds-text-i : goal.bounds-text-i
bounds-text-i c = omega arith

pub value-requires : goal.value-requires
value-requires c = all_at _ c.requires.0 _ (omega arith)

pub bounds-text-i-in-loop-i : goal.bounds-text-i-in-loop-i
bounds-text-i-in-loop-i c = omega arith

pub value-requires-in-loop-i : goal.value-requires-in-loop-i
value-requires-in-loop-i c = all_at _ c.requires.0 _ (omega arith)

pub bounds-out-i : goal.bounds-out-i
bounds-out-i c = omega arith

pub loop-i-preserved : goal.loop-i-preserved
loop-i-preserved c =
    let l = c.loop-i in
    (search rules, simp length-set l.invariant.1, pair_next _ _ _ _ _ c.value.ensures.0 c.value-in-loop-i.ensures.0 (omega arith) ∙ l.invariant.2)

pub shape_of-out : goal.shape_of-out
shape_of-out c = c.loop-i.invariant.1

pub returns : goal.returns
returns c = sym (pair_end _ _ _ c.loop-i-test.false) ∙ c.loop-i.invariant.2
