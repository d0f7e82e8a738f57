-- `changes::put_removals` meets its contract. The invariant: the removals of the types below t are stored.
use mathlib.Core.Path.{◌≡◌, refl, sym, ap, ◌∙◌}
use Prim.Native.Nat.{◌+◌}
use native.Mathlib.Omega.{arith}
use lib.ListN.{length, length-set}
use borrow.Author.Rules.{rules}
use Rattle.refusal.specs.Output.{put}
use Rattle.laws.proofs.Puts.{put_none}
use Rattle.change_lists.specs.Operations.{encode_ops}
use Rattle.changes.proofs.Removals.{gone_start, gone_count, gone_skip, gone_bytes, gone_stored, gone_grows}
use Rattle.changes.proofs.put_removals.Goals.{then-marks-t-eq1, else-marks-t-eq1}
use Rattle.changes.proofs.put_removals.Goals as goal

pub loop-t-init : goal.loop-t-init
loop-t-init c = (refl, sym (ap length (gone_start _)), sym (ap (put _ _) (gone_start _) ∙ put_none _ _), search rules)

pub bounds-out-to : goal.bounds-out-to
bounds-out-to c =
    let m = c.args.marks in
    omega (arith, c.loop-t.invariant, gone_bytes m c.loop-t.t, gone_count m c.loop-t.t c.if-marks-t-eq1.true, gone_grows m (c.loop-t.t + 1) (omega arith), c.requires)

pub bounds-out-to-then-marks-t-eq1 : goal.bounds-out-to-then-marks-t-eq1
bounds-out-to-then-marks-t-eq1 c =
    let m = c.args.marks in
    simp length-set
    (omega (arith, c.loop-t.invariant, gone_bytes m c.loop-t.t, gone_count m c.loop-t.t c.if-marks-t-eq1.true, gone_grows m (c.loop-t.t + 1) (omega arith), c.requires))

pub bounds-out-to-then-marks-t-eq1-2 : goal.bounds-out-to-then-marks-t-eq1-2
bounds-out-to-then-marks-t-eq1-2 c =
    let m = c.args.marks in
    simp length-set
    (omega (arith, c.loop-t.invariant, gone_bytes m c.loop-t.t, gone_count m c.loop-t.t c.if-marks-t-eq1.true, gone_grows m (c.loop-t.t + 1) (omega arith), c.requires))

pub loop-t-preserved : goal.loop-t-preserved
loop-t-preserved c =
    let m = c.args.marks in
    let t = c.loop-t.t in
    let held = c.loop-t.invariant in
    elim c.if-marks-t-eq1.branch [
      | then-marks-t-eq1 w ↦ (
        c.if-marks-t-eq1.auto.out ∙ held.0,
        omega (arith, w, held.1, gone_bytes m t, gone_bytes m (t + 1), gone_count m t w.if-marks-t-eq1.true),
        w.out-is ∙ gone_stored m _ _ _ _ w.if-marks-t-eq1.true held.2 held.1,
        omega (arith, w, held.3),
      )
      | else-marks-t-eq1 w ↦ (
          let same = ap encode_ops (gone_skip m _ w.if-marks-t-eq1.false) in
          (c.if-marks-t-eq1.auto.out ∙ held.0, w.to-is ∙ held.1 ∙ ap length (sym same), w.out-is ∙ held.2 ∙ ap (put _ _) (sym same), omega (arith, w, held.3))
          )
    ]

pub shape_of-out : goal.shape_of-out
shape_of-out c = c.loop-t.invariant.0

pub returns : goal.returns
returns c =
    let e : c.loop-t.t ≡ 256 = omega arith in
    let held = rw e at c.loop-t.invariant in
    (held.1, held.2)
