-- `network_framing::head_at` meets its contract: at each `return` the tests that led there say which case of `head_place` holds.
use Rattle.std.specs.Prelude.{None}
use borrow.Author.Tests.{lt-ltb, le-ltb, le-leb, lt-leb}
use native.Mathlib.Omega.{arith}
use Prim.Native.Nat.{◌+◌}
use Rattle.network_framing.specs.Place.{head_place}
use Rattle.network_framing.proofs.Agrees.{head_is, head_short, head_inner}
use Rattle.network_framing.proofs.head_at.Goals as goal

pub returns-then-end-start : goal.returns-then-end-start
unfolding head_place
returns-then-end-start c =
    let a = c.args in
    head_is a.s.now a.start a.end None (simp (le-leb _ _ c.if-end-start.true))

pub returns-then-s-end : goal.returns-then-s-end
unfolding head_place
returns-then-s-end c =
    let a = c.args in
    head_is a.s.now a.start a.end None (simp (lt-leb _ _ c.if-end-start.false, lt-ltb _ _ c.if-s-end.true))

pub returns-then-n-lt2 : goal.returns-then-n-lt2
unfolding head_place
returns-then-n-lt2 c =
    let a = c.args in
    head_is a.s.now a.start a.end None (simp (lt-leb _ _ c.if-end-start.false, le-ltb _ _ c.if-s-end.false, lt-ltb _ _ c.if-n-lt2.true))

pub overflow_cast-need : goal.overflow_cast-need
overflow_cast-need c =
    let a = c.args in
    omega (arith, c.type_inv.s (a.start + 1))

pub overflow_add-need-2 : goal.overflow_add-need-2
overflow_add-need-2 c =
    let a = c.args in
    omega (arith, c.type_inv.s (a.start + 1))

pub overflow_add-need-3 : goal.overflow_add-need-3
overflow_add-need-3 c =
    let a = c.args in
    omega (arith, c.type_inv.s (a.start + 1))

pub returns-then-n-need : goal.returns-then-n-need
returns-then-n-need c =
    let byte = c.type_inv.s (c.args.start + 1) in
    head_short _ _ _ c.if-end-start.false c.if-s-end.false c.if-n-lt2.false _ (omega (arith, byte)) c.if-n-need.true

pub returns : goal.returns
returns c =
    let byte = c.type_inv.s (c.args.start + 1) in
    head_inner _ _ _ c.if-end-start.false c.if-s-end.false c.if-n-lt2.false _ (omega (arith, byte)) _ (omega arith) c.if-n-need.false
