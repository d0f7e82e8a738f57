-- `changes::put_spared` meets its contract.
use mathlib.Core.Path.{refl, sym, ap, ◌∙◌}
use Prim.Native.Nat.{◌+◌}
use native.Mathlib.Omega.{arith}
use native.Mathlib.Nat.{zero-add, add-zero}
use lib.ListN.{length}
use Rattle.refusal.specs.Output.{put}
use Rattle.laws.proofs.Puts.{put_none, put_then}
use Rattle.laws.proofs.Emits.{placed_next, placed_left}
use Rattle.tlv.specs.Walk.{left, as_entry}
use Rattle.tlv_writing.specs.Encode.{encode_all}
use Rattle.tlv_writing.proofs.Encodes.{size_bound, length_encode, entry_placed}
use Rattle.tlv_writing.proofs.Several.{encode_none, encode_more}
use Rattle.changes.proofs.Writes.{all_length, spared_keep, spared_skip, spared_none, spared_bound}
use Rattle.changes.proofs.put_spared.Goals as goal

pub loop-entry-init : goal.loop-entry-init
loop-entry-init c = rw (c.into_iter-entry-iterator.ensures.into_iter_gives, c.entries-entry-items.ensures) (refl, zero-add _, refl)

pub loop-entry-preserved-then-marks-entry-eq0 : goal.loop-entry-preserved-then-marks-entry-eq0
loop-entry-preserved-then-marks-entry-eq0 c =
    let held = rw c.in-Some.ensures.steps at c.loop-entry.invariant in
    let e = c.in-Some.entry in
    let keep = spared_keep c.args.marks (as_entry e) (left c.next.new.self) c.if-marks-entry-eq0.true in
    let more = all_length _ _ _ keep in
    let size = length_encode e.ty e.value.now in
    let most = spared_bound c.args.marks c.args.s.now in
    let told = c.put_entry-to.ensures ∙ entry_placed e.ty e.value.now _ _ (omega (arith, held.1, more, most, size_bound (length e.value.now), c.requires.0)) in
    let next = placed_next _ _ _ _ _ told (omega (arith, size, more, c.requires.1, held)) in
    let left = placed_left _ _ _ _ _ told (omega (arith, size, more, c.requires.1, held)) in (
      c.put_entry-to.auto.out ∙ held.0,
      omega arith,
      put_then _ _ _ _ _ _ left next ∙ ap (put _ _) (sym (ap encode_all keep ∙ encode_more _ _)) ∙ held.2,
    )

pub loop-entry-preserved : goal.loop-entry-preserved
loop-entry-preserved c =
    let held = rw c.in-Some.ensures.steps at c.loop-entry.invariant in
    let same = ap encode_all (spared_skip c.args.marks _ _ c.if-marks-entry-eq0.false) in
    (held.0, ap (λ bs. c.loop-entry.to + length bs) (sym same) ∙ held.1, ap (put _ _) (sym same) ∙ held.2)

pub returns : goal.returns
returns c =
    let held = rw (c.in-None.ensures.steps.0, spared_none, encode_none) at c.loop-entry.invariant in
    (sym (add-zero _) ∙ held.1, sym (put_none _ _) ∙ held.2)
