-- `changes::count_removals` meets its contract.
use mathlib.Core.Path.{◌≡◌, sym, ap}
use native.Mathlib.Omega.{arith}
use lib.ListN.{length}
use Rattle.changes.proofs.Removals.{gone_none, gone_count, gone_skip}
use Rattle.changes.proofs.count_removals.Goals.{then-marks-t-eq1, else-marks-t-eq1}
use Rattle.changes.proofs.count_removals.Goals as goal

pub loop-t-init : goal.loop-t-init
loop-t-init c = (omega arith, sym (gone_none _))

pub loop-t-preserved : goal.loop-t-preserved
loop-t-preserved c =
    let m = c.args.marks in
    elim c.if-marks-t-eq1.branch [
      | then-marks-t-eq1 w ↦ omega (arith, w, gone_count m _ w.if-marks-t-eq1.true, c.loop-t.invariant)
      | else-marks-t-eq1 w ↦ omega (arith, w, ap length (gone_skip m _ w.if-marks-t-eq1.false), c.loop-t.invariant)
    ]

pub returns : goal.returns
returns c =
    let e : c.loop-t.t ≡ 256 = omega arith in
    let held = rw e at c.loop-t.invariant in
    (held.1, held.0)
