-- `diag_rules::keeps_rule` meets its contract: each arm is a line of the table.
use borrow.Author.Tests.{le-leb, lt-leb}
use Rattle.diag_rules.specs.Rule.{keeps_rule}
use Rattle.diag_rules.proofs.Kept.{other_kept}
use Rattle.diag_rules.proofs.keeps_rule.Goals as goal

pub returns-in-1 : goal.returns-in-1
unfolding keeps_rule
returns-in-1 c = simp c.in-1.is

pub returns-in-2 : goal.returns-in-2
unfolding keeps_rule
returns-in-2 c = simp c.in-2.is

pub returns-in-3 : goal.returns-in-3
unfolding keeps_rule
returns-in-3 c = simp c.in-3.is

pub returns-in-4 : goal.returns-in-4
unfolding keeps_rule
returns-in-4 c = simp c.in-4.is

pub returns-in-5 : goal.returns-in-5
unfolding keeps_rule
returns-in-5 c = simp (c.in-5.is, c.routes_fit.ensures)

pub returns-in-6 : goal.returns-in-6
unfolding keeps_rule
returns-in-6 c = simp c.in-6.is

pub returns-in-8 : goal.returns-in-8
unfolding keeps_rule
returns-in-8 c = simp c.in-8.is

pub returns-in-9 : goal.returns-in-9
unfolding keeps_rule
returns-in-9 c = simp c.in-9.is

pub returns-in-14 : goal.returns-in-14
unfolding keeps_rule
returns-in-14 c = simp c.in-14.is

pub returns-in-15 : goal.returns-in-15
unfolding keeps_rule
returns-in-15 c = simp c.in-15.is

pub returns-in-16 : goal.returns-in-16
unfolding keeps_rule
returns-in-16 c = simp c.in-16.is

pub returns-in-23 : goal.returns-in-23
unfolding keeps_rule
returns-in-23 c = simp c.in-23.is

pub returns-else-n-ge2 : goal.returns-else-n-ge2
unfolding keeps_rule
returns-else-n-ge2 c = simp (c.in-30.is, lt-leb _ _ c.if-n-ge2.false)

pub returns-then-n-ge2 : goal.returns-then-n-ge2
unfolding keeps_rule
returns-then-n-ge2 c = simp (c.in-30.is, le-leb _ _ c.if-n-ge2.true)

pub returns-in_default : goal.returns-in_default
returns-in_default c =
    let r = c.in_default.in_default-own.rest in
    other_kept _ _
    r.0.0.0.0.0.0.0.0.0.0.0.0.1
    r.0.0.0.0.0.0.0.0.0.0.0.1
    r.0.0.0.0.0.0.0.0.0.0.1
    r.0.0.0.0.0.0.0.0.0.1
    r.0.0.0.0.0.0.0.0.1
    r.0.0.0.0.0.0.0.1
    r.0.0.0.0.0.0.1
    r.0.0.0.0.0.1
    r.0.0.0.0.1
    r.0.0.0.1
    r.0.0.1
    r.0.1
    r.1
