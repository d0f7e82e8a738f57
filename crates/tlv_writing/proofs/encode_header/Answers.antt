-- `tlv_writing::encode_header` meets its contract: an entry's size without its value is the header's.
use native.Mathlib.Omega.{arith}
use Rattle.laws.proofs.Emits.{emit_refused, emit_no_room, emit_done}
use Rattle.tlv_writing.proofs.Encodes.{header_measured, headed_too_long, headed_is}
use Rattle.tlv_writing.proofs.encode_header.Goals as goal

pub returns-then-len-gt-MAX_EXTENDED_TLV_LENGTH : goal.returns-then-len-gt-MAX_EXTENDED_TLV_LENGTH
returns-then-len-gt-MAX_EXTENDED_TLV_LENGTH c = rw c.refuse.ensures (emit_refused _ _ _ _ _ (headed_too_long _ _ c.if-len-gt-MAX_EXTENDED_TLV_LENGTH.true))

pub overflow_sub-entry_size : goal.overflow_sub-entry_size
overflow_sub-entry_size c = omega (arith, header_measured c.args.ty c.args.len _ c.if-len-gt-MAX_EXTENDED_TLV_LENGTH.false c.entry_size.ensures)

pub returns-then-entry_size-len : goal.returns-then-entry_size-len
returns-then-entry_size-len c =
    rw c.refuse-then-entry_size-len.ensures (emit_no_room _ _ _ (headed_is _ _ c.if-len-gt-MAX_EXTENDED_TLV_LENGTH.false) (omega (arith, header_measured c.args.ty c.args.len _ c.if-len-gt-MAX_EXTENDED_TLV_LENGTH.false c.entry_size.ensures)))

pub store_header-requires : goal.store_header-requires
store_header-requires c = (c.if-len-gt-MAX_EXTENDED_TLV_LENGTH.false, omega (arith, header_measured c.args.ty c.args.len _ c.if-len-gt-MAX_EXTENDED_TLV_LENGTH.false c.entry_size.ensures))

pub returns : goal.returns
returns c =
    let told = c.store_header.ensures in
    emit_done _ _ _ (headed_is _ _ c.if-len-gt-MAX_EXTENDED_TLV_LENGTH.false) _ _ (omega (arith, told.0)) told.1 (omega (arith, header_measured c.args.ty c.args.len _ c.if-len-gt-MAX_EXTENDED_TLV_LENGTH.false c.entry_size.ensures))
