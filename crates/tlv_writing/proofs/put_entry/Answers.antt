-- `tlv_writing::put_entry` meets its contract: the tests say whether the entry is written, and then the header and the value are.
use mathlib.Core.Path.{◌∙◌}
use native.Mathlib.Omega.{arith}
use lib.ListN.{length}
use Rattle.tlv_writing.proofs.Encodes.{size_header, entry_size_lem, too_long_placed, no_room_placed, value_placed}
use Rattle.tlv_writing.proofs.put_entry.Goals as goal

pub returns-then-n-gt-MAX_EXTENDED_TLV_LENGTH : goal.returns-then-n-gt-MAX_EXTENDED_TLV_LENGTH
returns-then-n-gt-MAX_EXTENDED_TLV_LENGTH c = too_long_placed _ _ _ _ c.if-n-gt-MAX_EXTENDED_TLV_LENGTH.true

pub returns-then-at-out : goal.returns-then-at-out
returns-then-at-out c = no_room_placed _ _ _ _ c.if-n-gt-MAX_EXTENDED_TLV_LENGTH.false (omega arith)

pub returns-then-entry_size-out : goal.returns-then-entry_size-out
returns-then-entry_size-out c =
    let long = c.if-n-gt-MAX_EXTENDED_TLV_LENGTH.false in
    no_room_placed _ _ _ _ long (omega (arith, c.entry_size.ensures ∙ entry_size_lem _ long))

pub store_header-start-requires : goal.store_header-start-requires
store_header-start-requires c =
    let long = c.if-n-gt-MAX_EXTENDED_TLV_LENGTH.false in
    let a = c.args in
    (long, omega (arith, c.entry_size.ensures ∙ entry_size_lem _ long, size_header a.ty (length a.value.now)))

pub returns : goal.returns
returns c =
    let long = c.if-n-gt-MAX_EXTENDED_TLV_LENGTH.false in
    c.put_bytes.ensures ∙ value_placed _ _ _ _ _ _ c.store_header-start.ensures.1 c.store_header-start.ensures.0 long (omega (arith, c.entry_size.ensures ∙ entry_size_lem _ long))
