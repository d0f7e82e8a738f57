-- `tlv_writing::write_entry` meets its contract.
use mathlib.Core.Path.{◌∙◌}
use native.Mathlib.Omega.{arith}
use native.Mathlib.Nat.{zero-add}
use Rattle.laws.proofs.Emits.{emit_refused, emit_no_room, emit_done, placed_next, placed_left}
use Rattle.tlv_writing.proofs.Encodes.{entry_size_lem, length_encode, encoded_too_long, encoded_fits, entry_placed}
use Rattle.tlv_writing.proofs.write_entry.Goals as goal

pub returns-then-value-gt-MAX_EXTENDED_TLV_LENGTH : goal.returns-then-value-gt-MAX_EXTENDED_TLV_LENGTH
returns-then-value-gt-MAX_EXTENDED_TLV_LENGTH c = rw c.refuse.ensures (emit_refused _ _ _ _ _ (encoded_too_long _ _ c.if-value-gt-MAX_EXTENDED_TLV_LENGTH.true))

pub returns-then-entry_size-out : goal.returns-then-entry_size-out
returns-then-entry_size-out c =
    let a = c.args in
    let long = c.if-value-gt-MAX_EXTENDED_TLV_LENGTH.false in
    rw c.refuse-then-entry_size-out.ensures
    (emit_no_room _ _ _ (encoded_fits _ _ long) (omega (arith, length_encode a.ty a.value.now, c.entry_size.ensures ∙ entry_size_lem _ long)))

pub returns : goal.returns
returns c =
    let a = c.args in
    let long = c.if-value-gt-MAX_EXTENDED_TLV_LENGTH.false in
    let told = c.put_entry.ensures ∙ entry_placed _ _ _ _ long in
    let size = length_encode a.ty a.value.now in
    let n = c.entry_size.ensures ∙ entry_size_lem _ long in
    emit_done _ _ _ (encoded_fits _ _ long) _ _
    (placed_next _ _ _ _ _ told (omega arith) ∙ zero-add _)
    (placed_left _ _ _ _ _ told (omega arith))
    (omega arith)
