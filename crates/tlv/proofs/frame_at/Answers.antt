-- `tlv::frame_at` meets its contract: at each `return` the tests that led there say which case of `frame_at` holds.
use borrow.Author.Tests.{lt-ltb, le-ltb, le-leb, lt-leb, eq-eqb, ne_eqb}
use mathlib.Core.Path.{◌≡◌}
use native.Mathlib.Omega.{arith}
use Prim.Native.Nat.{◌+◌, ◌-◌, ◌*◌, ◌≤◌, ◌<◌}
use lib.ListN.{length, get_or}
use Rattle.tlv.specs.Place.{frame_at, value_at}
use Rattle.tlv.proofs.frame_at.Goals as goal

pub returns-then-n-at : goal.returns-then-n-at
unfolding frame_at
returns-then-n-at c = simp (le-leb _ _ c.if-n-at.true)

pub returns-then-n-at-lt2 : goal.returns-then-n-at-lt2
unfolding frame_at
returns-then-n-at-lt2 c = simp (lt-leb _ _ c.if-n-at.false, lt-ltb _ _ c.if-n-at-lt2.true)

pub returns-then-n-at-lt4 : goal.returns-then-n-at-lt4
unfolding frame_at
returns-then-n-at-lt4 c =
    let a = c.args in
    let few : length a.s.now - a.at < 4 = omega arith in
    simp (lt-leb _ _ c.if-n-at.false, le-ltb _ _ c.if-n-at-lt2.false, eq-eqb _ _ c.if-short.true, lt-ltb _ _ few)

pub returns-then-long-n : goal.returns-then-long-n
unfolding frame_at value_at
returns-then-long-n c =
    let a = c.args in
    let enough : 4 ≤ length a.s.now - a.at = omega arith in
    let long : get_or a.s.now (a.at + 2) 0 * 256 + get_or a.s.now (a.at + 3) 0 ≡ c.from-long.result = omega arith in
    simp (lt-leb _ _ c.if-n-at.false, le-ltb _ _ c.if-n-at-lt2.false, eq-eqb _ _ c.if-short.true, le-ltb _ _ enough, long, le-leb _ _ c.if-long-n.true)

pub returns-then-short : goal.returns-then-short
unfolding frame_at value_at
returns-then-short c =
    let a = c.args in
    let enough : 4 ≤ length a.s.now - a.at = omega arith in
    let long : get_or a.s.now (a.at + 2) 0 * 256 + get_or a.s.now (a.at + 3) 0 ≡ c.from-long.result = omega arith in
    simp (lt-leb _ _ c.if-n-at.false, le-ltb _ _ c.if-n-at-lt2.false, eq-eqb _ _ c.if-short.true, le-ltb _ _ enough, long, lt-leb _ _ c.if-long-n.false)

pub returns-then-short-n : goal.returns-then-short-n
unfolding frame_at value_at
returns-then-short-n c =
    simp (lt-leb _ _ c.if-n-at.false, le-ltb _ _ c.if-n-at-lt2.false, ne_eqb _ _ c.if-short.false, le-leb _ _ c.if-short-n.true)

pub returns : goal.returns
unfolding frame_at value_at
returns c =
    simp (lt-leb _ _ c.if-n-at.false, le-ltb _ _ c.if-n-at-lt2.false, ne_eqb _ _ c.if-short.false, lt-leb _ _ c.if-short-n.false)
