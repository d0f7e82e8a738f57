-- `changes::spared_extent` meets its contract.
use mathlib.Core.Path.{sym, ap, ◌∙◌}
use Prim.Native.Nat.{◌+◌}
use native.Mathlib.Omega.{arith}
use native.Mathlib.Nat.{zero-add}
use lib.ListN.{length}
use Rattle.tlv.specs.Walk.{left, as_entry}
use Rattle.tlv_writing.specs.Encode.{encode_all}
use Rattle.tlv_writing.proofs.Encodes.{size_bound, entry_size_lem}
use Rattle.tlv_writing.proofs.Several.{encode_none}
use Rattle.changes.proofs.Writes.{all_length, extent_is, spared_keep, spared_skip, spared_none, spared_bound}
use Rattle.changes.proofs.spared_extent.Goals as goal

pub loop-entry-init : goal.loop-entry-init
loop-entry-init c = rw (c.into_iter-entry-iterator.ensures.into_iter_gives, c.entries-entry-items.ensures) (zero-add _, zero-add _)

pub overflow_add-bytes : goal.overflow_add-bytes
overflow_add-bytes c =
    let held = rw c.in-Some.ensures.steps at c.loop-entry.invariant in
    let n = length c.in-Some.entry.value.now in
    let keep = spared_keep c.args.marks (as_entry c.in-Some.entry) (left c.next.new.self) c.if-marks-entry-eq0.true in
    let more = all_length _ _ _ keep in
    let most = spared_bound c.args.marks c.args.s.now in
    let long = size_bound n in
    omega (arith, held, more, most, long, c.entry_size-bytes.ensures ∙ entry_size_lem n (omega (arith, held, more, most, long)))

pub overflow_add-entries : goal.overflow_add-entries
overflow_add-entries c = omega (arith, spared_bound c.args.marks c.args.s.now)

pub loop-entry-preserved-then-marks-entry-eq0 : goal.loop-entry-preserved-then-marks-entry-eq0
loop-entry-preserved-then-marks-entry-eq0 c =
    let held = rw c.in-Some.ensures.steps at c.loop-entry.invariant in
    let n = length c.in-Some.entry.value.now in
    let keep = spared_keep c.args.marks (as_entry c.in-Some.entry) (left c.next.new.self) c.if-marks-entry-eq0.true in
    let more = all_length _ _ _ keep in
    let most = spared_bound c.args.marks c.args.s.now in
    let long = size_bound n in
    omega (arith, held, more, ap length keep, c.entry_size-bytes.ensures ∙ entry_size_lem n (omega (arith, held, more, most, long)))

pub loop-entry-preserved : goal.loop-entry-preserved
loop-entry-preserved c =
    let held = rw c.in-Some.ensures.steps at c.loop-entry.invariant in
    let skip = spared_skip c.args.marks _ _ c.if-marks-entry-eq0.false in
    (ap (λ cs. c.loop-entry.bytes + length (encode_all cs)) (sym skip) ∙ held.0, ap (λ cs. c.loop-entry.entries + length cs) (sym skip) ∙ held.1)

pub returns : goal.returns
returns c =
    let held = rw (c.in-None.ensures.steps.0, spared_none, encode_none) at c.loop-entry.invariant in
    let most = spared_bound c.args.marks c.args.s.now in
    (extent_is _ _ _ (omega (arith, held)) (omega (arith, held)), omega (arith, held, most), omega (arith, held, most))
