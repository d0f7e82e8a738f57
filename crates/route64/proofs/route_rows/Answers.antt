-- `route64::route_rows` meets its contract.
use mathlib.Core.Path.{sym, ap}
use Prim.Native.Nat.{◌+◌, ◌*◌, ◌<◌}
use native.Mathlib.Omega.{arith}
use lib.ListN.{length}
use Rattle.diag_rules.proofs.Mask.{rest_all, rest_end}
use Rattle.diag_rules.proofs.Bits.{top, to_come_start, to_come_take, to_come_next_byte}
use Rattle.route64.proofs.Routing.{laying_start, laying_hit, laying_same, laying_end}
use Rattle.route64.proofs.route_rows.Goals as goal

pub loop-j-init : goal.loop-j-init
loop-j-init c = rw c.route_row-rows.ensures (laying_same _ _ _ _ (laying_start _ c.requires) _ (sym (rest_all _)))

pub loop-left-init : goal.loop-left-init
loop-left-init c =
    let low : c.loop-j.j < 8 = omega arith in
    (low, (c.type_inv.v (1 + c.loop-j.j)).fits, laying_same _ _ _ _ c.loop-j.invariant _ (to_come_start c.args.v.now c.loop-j.j low))

pub bounds-v-n : goal.bounds-v-n
bounds-v-n c =
    let l = c.loop-left in
    let e = ap length (to_come_take c.args.v.now c.loop-j.j l.left l.invariant.1 (omega (arith, c.loop-left-test.true))) in
    omega (arith, l.invariant.2.bytes)

pub bounds-rows-n : goal.bounds-rows-n
bounds-rows-n c =
    let l = c.loop-left in
    let e = ap length (to_come_take c.args.v.now c.loop-j.j l.left l.invariant.1 (omega (arith, c.loop-left-test.true))) in
    omega (arith, l.invariant.2.few, l.invariant.2.long)

pub overflow_sub-left : goal.overflow_sub-left
overflow_sub-left c =
    let l = c.loop-left in
    let t = top l.left l.invariant.1 (omega (arith, c.loop-left-test.true)) in
    omega arith

pub loop-left-preserved : goal.loop-left-preserved
loop-left-preserved c =
    let l = c.loop-left in
    let take = to_come_take c.args.v.now c.loop-j.j l.left l.invariant.1 (omega (arith, c.loop-left-test.true)) in
    (l.invariant.0, omega arith, rw c.route_row.ensures (laying_hit _ _ _ _ l.invariant.2 _ _ _ take (omega arith)))

pub loop-j-preserved : goal.loop-j-preserved
loop-j-preserved c =
    let l = c.loop-left in
    laying_same _ _ _ _ l.invariant.2 _ (to_come_next_byte c.args.v.now c.loop-j.j l.left (omega (arith, c.loop-left-test.false)))

pub returns : goal.returns
returns c = laying_end _ _ _ _ c.loop-j.invariant (rest_end (c.loop-j.j * 8) _ (omega (arith, c.loop-j-test.false)))
