-- `tlv_rewriting::put_last` meets its contract.
use mathlib.Core.Path.{◌≡◌, sym, ap, ◌∙◌}
use mathlib.Core.List.{List}
use Prim.Native.Nat.{ℕ, ◌+◌}
use native.Mathlib.Omega.{arith}
use native.Mathlib.Nat.{zero-add}
use lib.ListN.{length}
use Rattle.refusal.specs.Output.{put}
use Rattle.refusal.proofs.Papers.{passes}
use Rattle.laws.proofs.Puts.{put_then}
use Rattle.laws.proofs.Emits.{emit_refused, emit_no_room, emit_done, placed_next, placed_left}
use Rattle.tlv.specs.Entries.{Content, contents, framing}
use Rattle.tlv_writing.specs.Encode.{size_of, encode_all}
use Rattle.tlv_rewriting.specs.Rewrite.{kept, added}
use Rattle.tlv_rewriting.specs.Loops.{extent_of}
use Rattle.tlv_rewriting.specs.declared.Choice.{Choice}
use Rattle.tlv_rewriting.specs.declared.Extent.{Extent}
use Rattle.tlv.proofs.Tally.{counted_short}
use Rattle.tlv_writing.proofs.Encodes.{size_bound, entry_size_lem, length_encode, entry_placed}
use Rattle.tlv_writing.proofs.Several.{sized_bytes, sized_count, sized_is}
use Rattle.tlv_rewriting.proofs.Sets.{add_bytes, add_length, add_count, add_refused, add_too_long, add_sized}
use Rattle.tlv_rewriting.proofs.put_last.Goals as goal

-- the bytes of the result, and how many entries it has, where the rest of it and the new entry are measured
bytes : (c : Choice) (ty : ℕ) (value : List ℕ) (cs : List Content) (e : Extent) (size : ℕ) → e ≡ extent_of (kept c cs) → size ≡ size_of (length value)
    → length (encode_all (added c ty value cs)) ≡ e.bytes + size
bytes c ty value cs e size rest new = omega (arith, add_length c ty value cs, ap (λ (x : Extent). x.bytes) rest)

number : (c : Choice) (ty : ℕ) (value : List ℕ) (cs : List Content) (e : Extent) → e ≡ extent_of (kept c cs) → length (added c ty value cs) ≡ e.entries + 1
number c ty value cs e rest = add_count c ty value cs ∙ ap (λ (x : Extent). x.entries + 1) (sym rest)

pub returns-in_err-count_entries : goal.returns-in_err-count_entries
returns-in_err-count_entries c =
    rw (passes _ _ c.from_residual.ensures.1) (emit_refused _ _ _ _ _ (add_refused _ _ _ _ _ _ _ (c.in_err-count_entries.ensures)))

pub returns-then-value-gt-MAX_EXTENDED_TLV_LENGTH : goal.returns-then-value-gt-MAX_EXTENDED_TLV_LENGTH
returns-then-value-gt-MAX_EXTENDED_TLV_LENGTH c =
    let told = c.in_ok-count_entries.ensures in
    rw c.refuse.ensures (emit_refused _ _ _ _ _ (add_too_long _ _ _ _ _ told c.if-value-gt-MAX_EXTENDED_TLV_LENGTH.true))

pub kept_extent-rest-requires : goal.kept_extent-rest-requires
kept_extent-rest-requires c = counted_short _ _ _ (c.in_ok-count_entries.ensures)

pub overflow_add-need : goal.overflow_add-need
overflow_add-need c =
    let n = length c.args.value.now in
    let told = c.in_ok-count_entries.ensures in
    let new = c.entry_size.ensures ∙ entry_size_lem n c.if-value-gt-MAX_EXTENDED_TLV_LENGTH.false in
    omega (arith, counted_short _ _ _ told, new, c.kept_extent-rest.ensures.1, size_bound n)

pub returns-then-need-gt-MAX_BYTES : goal.returns-then-need-gt-MAX_BYTES
returns-then-need-gt-MAX_BYTES c =
    let long = c.if-value-gt-MAX_EXTENDED_TLV_LENGTH.false in
    let told = c.in_ok-count_entries.ensures in
    let b = bytes c.args.choice c.args.ty c.args.value.now _ _ _ c.kept_extent-rest.ensures.0 (c.entry_size.ensures ∙ entry_size_lem _ long) in
    rw c.refuse-then-need-gt-MAX_BYTES.ensures (emit_refused _ _ _ _ _ (sized_bytes _ (omega (arith, b)) ∙ sym (add_sized _ _ _ _ _ told long)))

pub returns-then-rest-ge-MAX_ENTRIES : goal.returns-then-rest-ge-MAX_ENTRIES
returns-then-rest-ge-MAX_ENTRIES c =
    let long = c.if-value-gt-MAX_EXTENDED_TLV_LENGTH.false in
    let told = c.in_ok-count_entries.ensures in
    let b = bytes c.args.choice c.args.ty c.args.value.now _ _ _ c.kept_extent-rest.ensures.0 (c.entry_size.ensures ∙ entry_size_lem _ long) in
    let n = number c.args.choice c.args.ty c.args.value.now _ _ c.kept_extent-rest.ensures.0 in
    rw c.refuse-then-rest-ge-MAX_ENTRIES.ensures
    (emit_refused _ _ _ _ _ (sized_count _ (omega (arith, b)) (omega (arith, n)) ∙ sym (add_sized _ _ _ _ _ told long)))

pub returns-then-need-out : goal.returns-then-need-out
returns-then-need-out c =
    let long = c.if-value-gt-MAX_EXTENDED_TLV_LENGTH.false in
    let told = c.in_ok-count_entries.ensures in
    let b = bytes c.args.choice c.args.ty c.args.value.now _ _ _ c.kept_extent-rest.ensures.0 (c.entry_size.ensures ∙ entry_size_lem _ long) in
    let n = number c.args.choice c.args.ty c.args.value.now _ _ c.kept_extent-rest.ensures.0 in
    let result = added c.args.choice c.args.ty c.args.value.now (contents (framing c.args.s.now).entries) in
    let fits = add_sized _ _ _ _ _ told long ∙ sized_is result (omega (arith, b)) (omega (arith, n)) in
    rw c.refuse-then-need-out.ensures (emit_no_room _ _ _ fits (omega (arith, b)))

pub put_kept-requires : goal.put_kept-requires
put_kept-requires c =
    let told = c.in_ok-count_entries.ensures in
    (counted_short _ _ _ told, omega (arith, ap (λ (x : Extent). x.bytes) c.kept_extent-rest.ensures.0))

pub returns : goal.returns
returns c =
    let long = c.if-value-gt-MAX_EXTENDED_TLV_LENGTH.false in
    let counted = c.in_ok-count_entries.ensures in
    let rest = ap (λ (x : Extent). x.bytes) c.kept_extent-rest.ensures.0 in
    let new = c.entry_size.ensures ∙ entry_size_lem _ long in
    let b = bytes c.args.choice c.args.ty c.args.value.now _ _ _ c.kept_extent-rest.ensures.0 new in
    let n = number c.args.choice c.args.ty c.args.value.now _ _ c.kept_extent-rest.ensures.0 in
    let size = length_encode c.args.ty c.args.value.now in
    let same = c.put_kept.auto.out in
    let told = c.put_entry.ensures ∙ entry_placed _ _ _ _ long in
    let next = placed_next _ _ _ _ _ told (omega arith) in
    let left = placed_left _ _ _ _ _ told (omega arith) in
    let joined = put_then _ _ _ _ _ _ c.put_kept.ensures (rest ∙ sym (zero-add _)) in
    emit_done _ _ _ (add_sized _ _ _ _ _ counted long ∙ sized_is _ (omega arith) (omega (arith, n))) _ _
    (omega arith)
    (left ∙ joined ∙ ap (put _ _) (sym (add_bytes _ _ _ _)))
    (omega arith)
