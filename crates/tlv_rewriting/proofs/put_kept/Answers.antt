-- `tlv_rewriting::put_kept` meets its contract.
use Prim.Native.Nat.{◌+◌}
use mathlib.Core.Path.{refl, sym, ap, ◌∙◌}
use native.Mathlib.Omega.{arith}
use native.Mathlib.Nat.{zero-add}
use lib.ListN.{length}
use Rattle.refusal.specs.Output.{put}
use Rattle.tlv.specs.Walk.{left, as_entry}
use Rattle.laws.proofs.Puts.{put_none, put_then}
use Rattle.laws.proofs.Emits.{placed_next, placed_left}
use Rattle.tlv.proofs.Walks.{framing_lies}
use Rattle.tlv_writing.specs.Encode.{encode_all}
use Rattle.tlv_writing.proofs.Encodes.{entry_placed, length_encode}
use Rattle.tlv_writing.proofs.Several.{encode_none}
use Rattle.tlv_rewriting.proofs.Kept.{kept_none, turn_skip, bytes_keep, length_keep}
use Rattle.tlv_rewriting.proofs.put_kept.Goals as goal

pub loop-entry-init : goal.loop-entry-init
loop-entry-init c = rw (c.into_iter-entry-iterator.ensures.into_iter_gives, c.entries-entry-items.ensures) (refl, zero-add _, refl, framing_lies _)

pub loop-entry-preserved-then-keeps : goal.loop-entry-preserved-then-keeps
loop-entry-preserved-then-keeps c =
    let held = rw c.in-Some.ensures.steps at c.loop-entry.invariant in
    let keeps = sym c.keeps.ensures ∙ c.if-keeps.true in
    let more = length_keep c.args.c (as_entry c.in-Some.entry) (left c.next.new.self) keeps in
    let size = length_encode c.in-Some.entry.ty c.in-Some.entry.value.now in
    let told = c.put_entry-to.ensures ∙ entry_placed c.in-Some.entry.ty c.in-Some.entry.value.now _ _ (omega (arith, held.3.0, c.requires.0)) in
    let next = placed_next _ _ _ _ _ told (omega (arith, size, more, c.requires.1, held)) in
    let left = placed_left _ _ _ _ _ told (omega (arith, size, more, c.requires.1, held)) in (
      c.put_entry-to.auto.out ∙ held.0,
      omega arith,
      put_then _ _ _ _ _ _ left next ∙ ap (put _ _) (sym (bytes_keep _ _ _ keeps)) ∙ held.2,
      held.3.1,
    )

pub loop-entry-preserved : goal.loop-entry-preserved
loop-entry-preserved c =
    let held = rw c.in-Some.ensures.steps at c.loop-entry.invariant in
    let same = ap encode_all (turn_skip _ _ _ (sym c.keeps.ensures ∙ c.if-keeps.false)) in
    (held.0, ap (λ bs. c.loop-entry.to + length bs) (sym same) ∙ held.1, ap (put _ _) (sym same) ∙ held.2, held.3.1)

pub returns : goal.returns
returns c =
    let held = rw (c.in-None.ensures.steps.0, kept_none, encode_none) at c.loop-entry.invariant in
    sym (put_none _ _) ∙ held.2
