-- `connectivity::priority` meets its contract.
use Rattle.std.proofs.Common.{◌/◌, ◌≢◌, arith}
use borrow.Author.Tests.{eq-eqb, ne_eqb}
use Rattle.connectivity.specs.Connectivity.{priority_of}
use Rattle.connectivity.proofs.priority.Goals as goal

pub returns-in-1 : goal.returns-in-1
unfolding priority_of
returns-in-1 c = simp (eq-eqb _ _ c.in-1.is)

pub returns-in-0 : goal.returns-in-0
unfolding priority_of
returns-in-0 c = simp c.in-0.is

pub returns-in-3 : goal.returns-in-3
unfolding priority_of
returns-in-3 c = simp c.in-3.is

pub returns-in_default : goal.returns-in_default
unfolding priority_of
returns-in_default c =
    let not1 : c.args.b / 64 ≢ 1 = omega arith in
    let not0 : c.args.b / 64 ≢ 0 = omega arith in
    let not3 : c.args.b / 64 ≢ 3 = omega arith in
    simp (ne_eqb _ _ not1, ne_eqb _ _ not0, ne_eqb _ _ not3)
