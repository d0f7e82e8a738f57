-- `network_framing::sub_in` meets its contract: at each `return` the tests that led there say which case of `sub_place` holds.
use borrow.Author.Tests.{lt-ltb, le-ltb, le-leb, lt-leb}
use native.Mathlib.Omega.{arith}
use Prim.Native.Nat.{◌+◌}
use Rattle.network_framing.specs.Place.{sub_place}
use Rattle.network_framing.proofs.Agrees.{sub_is, sub_item, sub_cut}
use Rattle.network_framing.specs.declared.SubTlv.TheVariants.{Cut, End}
use Rattle.network_framing.proofs.sub_in.Goals as goal

pub returns-then-end-at : goal.returns-then-end-at
unfolding sub_place
returns-then-end-at c =
    let a = c.args in
    sub_is a.s.now a.at a.end End (simp (le-leb _ _ c.if-end-at.true))

pub returns-then-s-end : goal.returns-then-s-end
unfolding sub_place
returns-then-s-end c =
    let a = c.args in
    sub_is a.s.now a.at a.end Cut (simp (lt-leb _ _ c.if-end-at.false, lt-ltb _ _ c.if-s-end.true))

pub returns-then-end-at-lt2 : goal.returns-then-end-at-lt2
unfolding sub_place
returns-then-end-at-lt2 c =
    let a = c.args in
    sub_is a.s.now a.at a.end Cut (simp (lt-leb _ _ c.if-end-at.false, le-ltb _ _ c.if-s-end.false, lt-ltb _ _ c.if-end-at-lt2.true))

pub overflow_cast-len : goal.overflow_cast-len
overflow_cast-len c =
    let a = c.args in
    omega (arith, c.type_inv.s (a.at + 1))

pub returns-then-len-end : goal.returns-then-len-end
returns-then-len-end c =
    let byte = c.type_inv.s (c.args.at + 1) in
    sub_item _ _ _ c.if-end-at.false c.if-s-end.false c.if-end-at-lt2.false _ (omega (arith, byte)) _ _
    (omega arith) (omega arith) c.if-len-end.true

pub returns : goal.returns
returns c =
    let byte = c.type_inv.s (c.args.at + 1) in
    sub_cut _ _ _ c.if-end-at.false c.if-s-end.false c.if-end-at-lt2.false _ (omega (arith, byte)) c.if-len-end.false
