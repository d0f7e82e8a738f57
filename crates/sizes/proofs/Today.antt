-- Within today's sizes each definition of specs/Calls.antt is the one that the library's promises cite.
-- Assumes nothing.
use mathlib.Core.Path.{◌≡◌, refl, ap, fun_ext}
use mathlib.Core.List.{List, [], ◌∷◌}
use Prim.Native.Nat.{ℕ}
use Rattle.refusal.specs.Answer.{Answer, then_do}
use Rattle.tlv.specs.Entries.{Entry, Content}
use Rattle.tlv.specs.Limits.{framed}
use Rattle.base16.specs.Base16.{decoded}
use Rattle.wire.specs.Be.{wrong_length, ruled}
use Rattle.plain_values.specs.Plain.{sized_value, name_at}
use Rattle.channel_masks.specs.Mask.{Masked, items}
use Rattle.network_data.specs.Decode.{decode_network_data}
use Rattle.diag_rules.specs.Rule.{value_of}
use Rattle.tlv_writing.specs.Encode.{sized}
use Rattle.tlv_last.specs.Last.{last_entry}
use Rattle.house_template.specs.Template.{supplied}
use Rattle.dataset.specs.Queries.{query}
use Rattle.dataset_parts.specs.Parts.{name_entry, mask_as}
use Rattle.delay.specs.Delay.{delay_or, due_or}
use Rattle.listing.specs.Listing.{listed, hex_by}
use Rattle.nested_listing.specs.Nested.{nested}
use Rattle.tlv_rewriting.specs.Rewrite.{rewritten, with_set, with_pushed}
use Rattle.tlv_rewriting.specs.declared.Choice.{Choice}
use Rattle.dataset_hex.specs.Hex.{hex_of, well_framed, from_hex}
use Rattle.change_lists.specs.Operations.{Op, operations}
use Rattle.change_folds.specs.Run.{ran}
use Rattle.change_folds.specs.Fold.{sized_ops, folded, folded_two}
use Rattle.diag_entries.specs.Checked.{entry_value, decoding, checked}
use Rattle.diag_entries.specs.Lists.{child_list}
use Rattle.diag.specs.Diag.{decode}
use Rattle.diag.specs.declared.NetDiagData.{NetDiagData}
use Rattle.diag_tables.specs.Tables.{answered}
use Rattle.pairing.specs.Payload.{paired, codes, row_pairing}
use Rattle.record_writing.specs.Lent.{Lent}
use Rattle.record_writing.specs.Written.{written}
use Rattle.sizes.specs.Within.{today}
use Rattle.sizes.specs.Calls as c

pub framed_today : (i : ℕ) (s : List ℕ) → c.framed_in today i s ≡ framed i s
unfolding framed
framed_today i s = refl

pub operations_today : (i : ℕ) (s : List ℕ) → c.operations_in today i s ≡ operations i s
unfolding operations
operations_today i s = refl

pub decoded_today : (x : List ℕ) → c.decoded_in today x ≡ decoded x
unfolding decoded
decoded_today x = refl

pub sized_today : (cs : List Content) → c.sized_in today cs ≡ sized cs
unfolding sized
sized_today cs = refl

pub sized_ops_today : (os : List Op) → c.sized_ops_in today os ≡ sized_ops os
unfolding sized_ops
sized_ops_today os = refl

-- ---- bare values
pub wrong_length_today : {A : Type 0} (place n : ℕ) → c.wrong_length_in today {A = A} place n ≡ wrong_length place n
unfolding c.wrong_length_in wrong_length
wrong_length_today place n = refl

pub ruled_today : (k place : ℕ) (v : List ℕ) → c.ruled_in today k place v ≡ ruled k place v
unfolding c.ruled_in c.wrong_length_in ruled wrong_length
ruled_today k place v = refl

pub sized_value_today : (v : List ℕ) → c.sized_value_in today v ≡ sized_value v
unfolding c.sized_value_in sized_value
sized_value_today v = refl

pub name_today : (place : ℕ) (v : List ℕ) → c.name_in today place v ≡ name_at place v
unfolding c.name_in c.sized_value_in name_at sized_value
name_today place v = refl

pub mask_today : (place : ℕ) (v : List ℕ) → c.mask_in today place v ≡ items place v
unfolding c.mask_in items
mask_today place v = refl

pub network_today : (place : ℕ) (v : List ℕ) → c.network_in today place v ≡ decode_network_data place v
unfolding c.network_in decode_network_data
network_today place v = refl

pub value_today : (ty place : ℕ) (v : List ℕ) → c.value_in today ty place v ≡ value_of ty place v
unfolding c.value_in value_of
value_today ty place v = refl

-- ---- queries
pub last_today : (ty i : ℕ) (s : List ℕ) → c.last_in today ty i s ≡ last_entry ty i s
unfolding c.last_in last_entry framed
last_today ty i s = refl

pub supplied_today : (ty : ℕ) (d t : List ℕ) → c.supplied_in today ty d t ≡ supplied ty d t
unfolding c.supplied_in c.last_in supplied last_entry framed
supplied_today ty d t = refl

pub query_today : {A : Type 0} (ty : ℕ) (f : List ℕ → A) (s : List ℕ) → c.query_in today ty f s ≡ query ty f s
unfolding c.query_in c.last_in c.ruled_in c.wrong_length_in query last_entry framed ruled wrong_length
query_today ty f s = refl

pub name_entry_today : (s : List ℕ) → c.name_entry_in today s ≡ name_entry s
unfolding c.name_entry_in c.last_in c.name_in c.sized_value_in name_entry last_entry framed name_at sized_value
name_entry_today s = refl

pub mask_as_today : {A : Type 0} (f : Entry → List Masked → A) (s : List ℕ) → c.mask_as_in today f s ≡ mask_as f s
unfolding c.last_in c.mask_in last_entry framed items
mask_as_today f s = refl

pub delay_today : (d : ℕ) (s : List ℕ) → c.delay_in today d s ≡ delay_or d s
unfolding c.delay_in c.query_in c.last_in c.ruled_in c.wrong_length_in delay_or query last_entry framed ruled wrong_length
delay_today d s = refl

pub due_today : (d : ℕ) (s : List ℕ) (clock : ℕ) → c.due_in today d s clock ≡ due_or d s clock
unfolding c.due_in c.delay_in c.query_in c.last_in c.ruled_in c.wrong_length_in due_or delay_or query last_entry framed ruled wrong_length
due_today d s clock = refl

-- ---- listings
pub listed_today : (s : List ℕ) → c.listed_in today s ≡ listed s
unfolding c.listed_in listed framed
listed_today s = refl

pub nested_today : (s : List ℕ) → c.nested_in today s ≡ nested s
unfolding c.nested_in nested framed
nested_today s = refl

pub hex_by_today : (f : List ℕ → Answer (List ℕ)) (x : List ℕ) → c.hex_by_in today f x ≡ hex_by f x
unfolding c.hex_by_in hex_by decoded
hex_by_today f x = refl

-- ---- edits
pub rewritten_today : (k : Choice) (s : List ℕ) → c.rewritten_in today k s ≡ rewritten k s
unfolding c.rewritten_in rewritten framed
rewritten_today k s = refl

pub with_set_today : (t : ℕ) (v s : List ℕ) → c.with_set_in today t v s ≡ with_set t v s
unfolding c.with_set_in with_set framed sized
with_set_today t v s = refl

pub with_pushed_today : (t : ℕ) (v s : List ℕ) → c.with_pushed_in today t v s ≡ with_pushed t v s
unfolding c.with_pushed_in with_pushed framed sized
with_pushed_today t v s = refl

pub hex_of_today : (s : List ℕ) → c.hex_of_in today s ≡ hex_of s
unfolding c.hex_of_in c.rewritten_in hex_of rewritten framed
hex_of_today s = refl

pub from_hex_today : (x : List ℕ) → c.from_hex_in today x ≡ from_hex x
unfolding c.from_hex_in c.well_framed_in from_hex well_framed framed decoded
from_hex_today x = refl

-- ---- change lists
pub ran_today : (d l : List ℕ) → c.ran_in today d l ≡ ran d l
unfolding c.ran_in ran framed operations sized
ran_today d l = refl

pub folded_today : (l : List ℕ) → c.folded_in today l ≡ folded l
unfolding c.folded_in folded operations sized_ops
folded_today l = refl

pub folded_two_today : (a b : List ℕ) → c.folded_two_in today a b ≡ folded_two a b
unfolding c.folded_two_in folded_two operations sized_ops
folded_two_today a b = refl

-- ---- payloads
entry_value_today : (ty place : ℕ) (v : List ℕ) → c.entry_value_in today ty place v ≡ entry_value ty place v
unfolding c.entry_value_in c.network_in c.value_in entry_value decode_network_data value_of
entry_value_today ty place v = refl

decoding_today : (es : List Entry) → c.decoding_in today es ≡ decoding es
unfolding c.decoding_in decoding
decoding_today [] = refl
decoding_today (e ∷ es) = rw (entry_value_today e.ty e.place e.value, decoding_today es)

pub checked_today : (s : List ℕ) → c.checked_in today s ≡ checked s
unfolding c.checked_in checked framed
checked_today s = ap (then_do (framed 0 s)) (fun_ext decoding_today)

pub decode_today : (s : List ℕ) → c.decode_in today s ≡ decode s
unfolding c.decode_in decode
decode_today s = rw (checked_today s)

pub answered_today : (s : List ℕ) (p h b : ℕ) → c.answered_in today s p h b ≡ answered s p h b
unfolding c.answered_in answered
answered_today s p h b = rw (decode_today s)

pub child_list_today : (k : ℕ) (s : List ℕ) → c.child_list_in today k s ≡ child_list k s
unfolding c.child_list_in child_list
child_list_today k s = rw (checked_today s)

pub paired_today : (s : List ℕ) → c.paired_in today s ≡ paired s
unfolding c.paired_in paired
paired_today s = rw (checked_today s)

pub codes_today : (s : List ℕ) → c.codes_in today s ≡ codes s
unfolding c.codes_in codes
codes_today s = rw (paired_today s)

pub row_pairing_today : (k : ℕ) (s : List ℕ) → c.row_pairing_in today k s ≡ row_pairing k s
unfolding c.row_pairing_in row_pairing
row_pairing_today k s = rw (paired_today s)

-- ---- the payload of a record
pub written_today : (r : NetDiagData) (l : Lent) → c.written_in today r l ≡ written r l
unfolding c.written_in written sized
written_today r l = refl
