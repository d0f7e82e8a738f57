-- `pair_rule::judge` meets its contract: one test for each branch passed.
use borrow.Author.Tests.{eq-eqb, ne_eqb}
use native.Mathlib.Omega.{arith}
use Rattle.pair_rule.specs.Pairing.{judged}
use Rattle.pair_rule.proofs.judge.Goals as goal

pub returns-then-rows-ne1 : goal.returns-then-rows-ne1
unfolding judged
returns-then-rows-ne1 c =
    let a = c.args in
    simp (ne_eqb a.rows 1 (λ e. omega (arith, c.if-rows-ne1.true)))

pub returns-then-lists-eq1 : goal.returns-then-lists-eq1
unfolding judged
returns-then-lists-eq1 c =
    let a = c.args in
    simp (eq-eqb a.rows 1 (omega (arith, c.if-rows-ne1.false)), eq-eqb a.lists 1 (omega (arith, c.if-lists-eq1.true)))

pub returns-then-lists-eq0 : goal.returns-then-lists-eq0
unfolding judged
returns-then-lists-eq0 c =
    let a = c.args in
    simp (
      eq-eqb a.rows 1 (omega (arith, c.if-rows-ne1.false)),
      ne_eqb a.lists 1 (λ e. omega (arith, c.if-lists-eq1.false)),
      eq-eqb a.lists 0 (omega (arith, c.if-lists-eq0.true)),
    )

pub returns : goal.returns
unfolding judged
returns c =
    let a = c.args in
    simp (
      eq-eqb a.rows 1 (omega (arith, c.if-rows-ne1.false)),
      ne_eqb a.lists 1 (λ e. omega (arith, c.if-lists-eq1.false)),
      ne_eqb a.lists 0 (λ e. omega (arith, c.if-lists-eq0.false)),
    )
