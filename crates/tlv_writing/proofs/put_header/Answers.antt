-- `tlv_writing::put_header` meets its contract: the tests say whether the header is written.
use native.Mathlib.Omega.{arith}
use Rattle.tlv_writing.proofs.Encodes.{header_measured, header_too_long, header_no_room, header_room}
use Rattle.tlv_writing.proofs.put_header.Goals as goal

pub returns-then-len-gt-MAX_EXTENDED_TLV_LENGTH : goal.returns-then-len-gt-MAX_EXTENDED_TLV_LENGTH
returns-then-len-gt-MAX_EXTENDED_TLV_LENGTH c = header_too_long _ _ _ _ c.if-len-gt-MAX_EXTENDED_TLV_LENGTH.true

pub returns-then-at-out : goal.returns-then-at-out
returns-then-at-out c = header_no_room _ _ _ _ c.if-len-gt-MAX_EXTENDED_TLV_LENGTH.false (omega arith)

pub overflow_sub-entry_size : goal.overflow_sub-entry_size
overflow_sub-entry_size c = omega (arith, header_measured c.args.ty c.args.len _ c.if-len-gt-MAX_EXTENDED_TLV_LENGTH.false c.entry_size.ensures)

pub returns-then-entry_size-len : goal.returns-then-entry_size-len
returns-then-entry_size-len c = header_no_room _ _ _ _ c.if-len-gt-MAX_EXTENDED_TLV_LENGTH.false (omega (arith, header_measured c.args.ty c.args.len _ c.if-len-gt-MAX_EXTENDED_TLV_LENGTH.false c.entry_size.ensures))

pub store_header-requires : goal.store_header-requires
store_header-requires c = (c.if-len-gt-MAX_EXTENDED_TLV_LENGTH.false, omega (arith, header_measured c.args.ty c.args.len _ c.if-len-gt-MAX_EXTENDED_TLV_LENGTH.false c.entry_size.ensures))

pub returns : goal.returns
returns c =
    rw (c.store_header.ensures.0, c.store_header.ensures.1) (header_room _ _ _ _ c.if-len-gt-MAX_EXTENDED_TLV_LENGTH.false (omega (arith, header_measured c.args.ty c.args.len _ c.if-len-gt-MAX_EXTENDED_TLV_LENGTH.false c.entry_size.ensures)))
