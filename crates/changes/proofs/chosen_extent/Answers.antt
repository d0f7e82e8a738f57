-- `changes::chosen_extent` meets its contract.
use mathlib.Core.Path.{sym, ap, ◌∙◌}
use Prim.Native.Nat.{◌+◌}
use native.Mathlib.Omega.{arith}
use native.Mathlib.Nat.{zero-add}
use lib.ListN.{length}
use Rattle.tlv_writing.specs.Encode.{encode_all}
use Rattle.tlv_writing.proofs.Encodes.{size_bound, entry_size_lem}
use Rattle.tlv_writing.proofs.Several.{encode_none}
use Rattle.change_lists.specs.Walk.{left}
use Rattle.change_lists.proofs.Fits.{fit_next, ops_fit}
use Rattle.changes.specs.Loops.{extent_of}
use Rattle.changes.proofs.Turns.{chosen_set, chosen_not, chosen_other, chosen_none, chosen_all, chosen_bound}
use Rattle.changes.proofs.Writes.{all_length, extent_is}
use Rattle.changes.proofs.chosen_extent.Goals as goal

pub loop-operation-init : goal.loop-operation-init
loop-operation-init c =
    rw (c.into_iter-operation-iterator.ensures.into_iter_gives, c.operations-operation-items.ensures) (zero-add _, zero-add _, ops_fit _)

pub overflow_add-base : goal.overflow_add-base
overflow_add-base c =
    let held = rw (c.in-Some.ensures.steps, c.in-Set.is) at c.loop-operation.invariant in
    omega (arith, c.requires, fit_next (c.in-Set.place + (4 + length c.in-Set.value.now)) (length c.args.list.now) (left c.next.new.self) held.2.1)

pub overflow_add-base-in-Set : goal.overflow_add-base-in-Set
overflow_add-base-in-Set c =
    let held = rw (c.in-Some.ensures.steps, c.in-Set.is) at c.loop-operation.invariant in
    omega (arith, c.requires, fit_next (c.in-Set.place + (4 + length c.in-Set.value.now)) (length c.args.list.now) (left c.next.new.self) held.2.1)

pub overflow_add-bytes : goal.overflow_add-bytes
overflow_add-bytes c =
    let held = rw (c.in-Some.ensures.steps, c.in-Set.is) at c.loop-operation.invariant in
    let n = length c.in-Set.value.now in
    let size = c.entry_size-bytes.ensures ∙ entry_size_lem n (omega (arith, c.requires, fit_next (c.in-Set.place + (4 + length c.in-Set.value.now)) (length c.args.list.now) (left c.next.new.self) held.2.1)) in
    omega (arith, c.requires, size, size_bound n, fit_next (c.in-Set.place + (4 + length c.in-Set.value.now)) (length c.args.list.now) (left c.next.new.self) held.2.1, held.0, chosen_bound c.args.marks c.args.base _ _ (ops_fit c.args.list.now))

pub overflow_add-entries : goal.overflow_add-entries
overflow_add-entries c = omega (arith, c.requires, c.loop-operation.invariant.1, chosen_bound c.args.marks c.args.base _ _ (ops_fit c.args.list.now))

pub loop-operation-preserved-then-marks-ty : goal.loop-operation-preserved-then-marks-ty
loop-operation-preserved-then-marks-ty c =
    let held = rw (c.in-Some.ensures.steps, c.in-Set.is) at c.loop-operation.invariant in
    let n = length c.in-Set.value.now in
    let more = chosen_set c.args.marks c.args.base (left c.next.new.self) _ _ c.in-Set.value.now c.if-marks-ty.true in
    let size = c.entry_size-bytes.ensures ∙ entry_size_lem n (omega (arith, c.requires, fit_next (c.in-Set.place + (4 + length c.in-Set.value.now)) (length c.args.list.now) (left c.next.new.self) held.2.1)) in
    (omega (arith, held.0, size, all_length _ _ _ more), omega (arith, held.1, ap length more), (fit_next (c.in-Set.place + (4 + length c.in-Set.value.now)) (length c.args.list.now) (left c.next.new.self) held.2.1).1)

pub loop-operation-preserved-else-marks-ty : goal.loop-operation-preserved-else-marks-ty
loop-operation-preserved-else-marks-ty c =
    let held = rw (c.in-Some.ensures.steps, c.in-Set.is) at c.loop-operation.invariant in
    let skip = sym (chosen_not c.args.marks c.args.base (left c.next.new.self) _ _ c.in-Set.value.now c.if-marks-ty.false) in (
      ap (λ cs. c.loop-operation.bytes + length (encode_all cs)) skip ∙ held.0,
      ap (λ cs. c.loop-operation.entries + length cs) skip ∙ held.1,
      (fit_next (c.in-Set.place + (4 + length c.in-Set.value.now)) (length c.args.list.now) (left c.next.new.self) held.2.1).1,
    )

pub loop-operation-preserved : goal.loop-operation-preserved
loop-operation-preserved c =
    let held = rw c.in-Some.ensures.steps at c.loop-operation.invariant in
    let skip = sym (chosen_other c.args.marks c.args.base (left c.next.new.self) _ c.in_default.not-Set) in (
      ap (λ cs. c.loop-operation.bytes + length (encode_all cs)) skip ∙ held.0,
      ap (λ cs. c.loop-operation.entries + length cs) skip ∙ held.1,
      (fit_next _ (length c.args.list.now) (left c.next.new.self) held.2.1).1,
    )

pub returns : goal.returns
returns c =
    let held = rw (c.in-None.ensures.steps.0, chosen_none, encode_none) at c.loop-operation.invariant in
    let most = chosen_bound c.args.marks c.args.base _ _ (ops_fit c.args.list.now) in
    let all = chosen_all c.args.marks c.args.base c.args.list.now in
    (extent_is _ _ _ (omega (arith, held.0)) (omega (arith, held.1)) ∙ ap extent_of all, omega (arith, c.requires, held.0, most), omega (arith, c.requires, held.1, most))
