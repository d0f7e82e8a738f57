-- `tlv_rewriting::kept_extent` meets its contract.
use Prim.Native.Nat.{◌+◌}
use mathlib.Core.Path.{sym, ap, ◌∙◌}
use native.Mathlib.Omega.{arith}
use native.Mathlib.Nat.{zero-add}
use lib.ListN.{length}
use Rattle.tlv.specs.Walk.{left, as_entry}
use Rattle.tlv.proofs.Walks.{framing_lies}
use Rattle.tlv_writing.specs.Encode.{encode_all}
use Rattle.tlv_writing.proofs.Encodes.{entry_size_lem}
use Rattle.tlv_writing.proofs.Several.{encode_none}
use Rattle.tlv_rewriting.proofs.Kept.{kept_none, turn_skip, length_keep, count_keep, extent_is, kept_bound}
use Rattle.tlv_rewriting.proofs.kept_extent.Goals as goal

pub loop-entry-init : goal.loop-entry-init
loop-entry-init c = rw (c.into_iter-entry-iterator.ensures.into_iter_gives, c.entries-entry-items.ensures) (zero-add _, zero-add _, framing_lies _)

pub overflow_add-bytes : goal.overflow_add-bytes
overflow_add-bytes c =
    let held = rw c.in-Some.ensures.steps at c.loop-entry.invariant in
    let size = c.entry_size-bytes.ensures ∙ entry_size_lem (length c.in-Some.entry.value.now) (omega (arith, held.2.0, c.requires)) in
    omega (arith, held.0, size, length_keep c.args.c (as_entry c.in-Some.entry) (left c.next.new.self) (sym c.keeps.ensures ∙ c.if-keeps.true), kept_bound c.args.c c.args.s.now, c.requires)

pub overflow_add-entries : goal.overflow_add-entries
overflow_add-entries c = omega (arith, c.loop-entry.invariant.1, kept_bound c.args.c c.args.s.now, c.requires)

pub loop-entry-preserved-then-keeps : goal.loop-entry-preserved-then-keeps
loop-entry-preserved-then-keeps c =
    let held = rw c.in-Some.ensures.steps at c.loop-entry.invariant in
    let keeps = sym c.keeps.ensures ∙ c.if-keeps.true in
    let e = as_entry c.in-Some.entry in
    let es = left c.next.new.self in
    let size = c.entry_size-bytes.ensures ∙ entry_size_lem (length c.in-Some.entry.value.now) (omega (arith, held.2.0, c.requires)) in
    (omega (arith, held.0, size, length_keep c.args.c e es keeps), omega (arith, held.1, count_keep c.args.c e es keeps), held.2.1)

pub loop-entry-preserved : goal.loop-entry-preserved
loop-entry-preserved c =
    let held = rw c.in-Some.ensures.steps at c.loop-entry.invariant in
    let skip = turn_skip _ _ _ (sym c.keeps.ensures ∙ c.if-keeps.false) in
    (ap (λ cs. c.loop-entry.bytes + length (encode_all cs)) (sym skip) ∙ held.0, ap (λ cs. c.loop-entry.entries + length cs) (sym skip) ∙ held.1, held.2.1)

pub returns : goal.returns
returns c =
    let held = rw (c.in-None.ensures.steps.0, kept_none, encode_none) at c.loop-entry.invariant in
    (extent_is _ _ _ (omega (arith, held.0)) (omega (arith, held.1)), omega (arith, held.0, kept_bound c.args.c c.args.s.now))
