-- `changes::put_set` meets its contract.
use mathlib.Core.Path.{◌∙◌}
use native.Mathlib.Omega.{arith}
use lib.ListN.{length-set}
use Rattle.laws.proofs.Emits.{placed_next, placed_left}
use Rattle.tlv.specs.Entries.{content}
use Rattle.tlv_writing.proofs.Encodes.{entry_placed}
use Rattle.changes.proofs.Removals.{set_length, set_stored, plain_is}
use Rattle.changes.proofs.put_set.Goals as goal

pub bounds-out-at : goal.bounds-out-at
bounds-out-at c =
    let room = rw c.if-marked.true at c.requires in
    omega (arith, room, set_length (content c.args.ty c.args.value.now))

pub bounds-out-at-then-marked : goal.bounds-out-at-then-marked
bounds-out-at-then-marked c =
    let room = rw c.if-marked.true at c.requires in
    simp length-set (omega (arith, room, set_length (content c.args.ty c.args.value.now)))

pub shape_of-out-then-marked : goal.shape_of-out-then-marked
shape_of-out-then-marked c = simp length-set at c.put_entry.auto.out

pub returns-then-marked : goal.returns-then-marked
returns-then-marked c =
    let a = c.args in
    let e = content a.ty a.value.now in
    let size = set_length e in
    let room = rw c.if-marked.true at c.requires in
    let told = c.put_entry.ensures ∙ entry_placed _ _ _ _ c.requires.0 in
    let next = placed_next _ _ _ _ _ told (simp length-set (omega arith)) in
    let left = placed_left _ _ _ _ _ told (simp length-set (omega arith)) in
    rw c.if-marked.true (omega arith, left ∙ set_stored e _ _)

pub returns : goal.returns
returns c =
    let a = c.args in
    let plain = plain_is (content a.ty a.value.now) in
    let room = rw (c.if-marked.false, plain) at c.requires in
    let told = c.put_entry-2.ensures ∙ entry_placed _ _ _ _ c.requires.0 in
    let next = placed_next _ _ _ _ _ told (omega arith) in
    let left = placed_left _ _ _ _ _ told (omega arith) in
    rw (c.if-marked.false, plain) (next, left)
