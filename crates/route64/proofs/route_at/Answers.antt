-- `route64::route_at` meets its contract.
use mathlib.Core.Path.{sym, ap, ◌∙◌}
use Prim.Native.Nat.{◌+◌, ◌*◌, ◌<◌}
use native.Mathlib.Omega.{arith}
use lib.ListN.{length}
use Rattle.refusal.specs.Answer.{given}
use Rattle.laws.proofs.Numbered.{nth_empty, nth_head, nth_tail, nth_same}
use Rattle.diag_rules.proofs.Mask.{few, rest_all, rest_end}
use Rattle.diag_rules.proofs.Bits.{top, to_come_start, to_come_take, to_come_next_byte}
use Rattle.route64.proofs.Routing.{row_start, row_out, row_end, row_hit, row_same}
use Rattle.route64.proofs.route_at.Goals as goal

pub loop-j-init : goal.loop-j-init
loop-j-init c =
    let v = c.args.v.now in
    let all = ap length (rest_all v) in
    (omega (arith, few v), nth_same _ _ _ (row_same v _ _ _ (rest_all v) ∙ row_start v))

pub loop-bits-init : goal.loop-bits-init
loop-bits-init c =
    let v = c.args.v.now in
    let l = c.loop-j in
    let low : l.j < 8 = omega arith in
    let start = to_come_start v l.j low in
    let many = ap length start in
    (low, (c.type_inv.v (1 + l.j)).fits, omega (arith, l.invariant.0), nth_same _ _ _ (sym (row_same v _ _ _ start)) ∙ l.invariant.1)

pub returns-then-v-at : goal.returns-then-v-at
returns-then-v-at c = sym (nth_empty _ _ (row_out _ _ _ c.if-v-at.true)) ∙ c.loop-bits.invariant.3

pub returns-then-ahead-eq0 : goal.returns-then-ahead-eq0
returns-then-ahead-eq0 c =
    let l = c.loop-bits in
    let v = c.args.v.now in
    let take = to_come_take v c.loop-j.j l.bits l.invariant.1 (omega (arith, c.loop-bits-test.true)) in
    let hit = row_hit v _ _ _ _ take c.if-v-at.false in
    ap given c.route_row.ensures ∙ sym (nth_head _ _ _ _ hit (omega (arith, c.if-ahead-eq0.true))) ∙ l.invariant.3

pub overflow_sub-bits : goal.overflow_sub-bits
overflow_sub-bits c =
    let l = c.loop-bits in
    let t = top l.bits l.invariant.1 (omega (arith, c.loop-bits-test.true)) in
    omega arith

pub loop-bits-preserved : goal.loop-bits-preserved
loop-bits-preserved c =
    let l = c.loop-bits in
    let v = c.args.v.now in
    let take = to_come_take v c.loop-j.j l.bits l.invariant.1 (omega (arith, c.loop-bits-test.true)) in
    let e = ap length take in
    let hit = row_hit v _ _ _ _ take c.if-v-at.false in
    (l.invariant.0, omega arith, omega (arith, l.invariant.2), sym (nth_tail _ _ _ _ hit c.if-ahead-eq0.false) ∙ l.invariant.3)

pub loop-j-preserved : goal.loop-j-preserved
loop-j-preserved c =
    let l = c.loop-bits in
    let v = c.args.v.now in
    let next = to_come_next_byte v c.loop-j.j l.bits (omega (arith, c.loop-bits-test.false)) in
    let many = ap length next in
    (omega (arith, l.invariant.2), nth_same _ _ _ (sym (row_same v _ _ _ next)) ∙ l.invariant.3)

pub returns : goal.returns
returns c =
    sym (nth_empty _ _ (row_end _ _ _ (rest_end (c.loop-j.j * 8) c.args.v.now (omega (arith, c.loop-j-test.false))))) ∙ c.loop-j.invariant.1
