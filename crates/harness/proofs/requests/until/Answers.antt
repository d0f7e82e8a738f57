-- `requests::until` meets its contract. The invariant: i bytes and those before the first stop from i on are those of the whole. Assumes nothing.
use native.Mathlib.Omega.{arith}
use borrow.Author.Tests.{eq-eqb, ne_eqb}
use Rattle.harness.proofs.Places.{before_here, before_next, before_end}
use Rattle.harness.proofs.requests.until.Goals as goal

pub returns-then-b-stop-clause-value : goal.returns-then-b-stop-clause-value
returns-then-b-stop-clause-value c =
    omega (arith, before_here c.args.stop c.args.s.now _ c.loop-i-test.true (eq-eqb _ _ c.if-b-stop.true), c.loop-i.invariant)

pub loop-i-preserved : goal.loop-i-preserved
loop-i-preserved c =
    omega (arith, before_next c.args.stop c.args.s.now _ c.loop-i-test.true (ne_eqb _ _ c.if-b-stop.false), c.loop-i.invariant)

pub returns-clause-value : goal.returns-clause-value
returns-clause-value c = omega (arith, before_end c.args.stop c.args.s.now c.loop-i.i (omega arith), c.loop-i.invariant)
