-- "A handset not yet updated", against the library: each of these calls of it is refused for size, or answers just what the library's does. Read the one way,
-- old ones read the same; read the other, and with proofs/Larger.antt, a larger one is never shown in part.
-- Assumes nothing.
use mathlib.Core.Path.{◌≡◌, subst}
use mathlib.Core.Logic.{◌⊎◌}
use mathlib.Core.List.{List, []}
use Prim.Native.Nat.{ℕ}
use lib.ListN.{length}
use Rattle.refusal.specs.Answer.{Answer, on_given}
use Rattle.tlv.specs.Entries.{Entry}
use Rattle.tlv.specs.Limits.{framed, count}
use Rattle.base16.specs.Base16.{decoded}
use Rattle.wire.specs.Be.{wrong_length, ruled}
use Rattle.plain_values.specs.Plain.{sized_value, name_at}
use Rattle.channel_masks.specs.Mask.{Masked, items}
use Rattle.diag_rules.specs.Rule.{value_of}
use Rattle.tlv_last.specs.Last.{last_entry, spot, last_spot, value_or, last_value}
use Rattle.dataset.specs.Queries.{query}
use Rattle.tlv_rewriting.specs.Rewrite.{rewritten, with_set, with_pushed}
use Rattle.tlv_rewriting.specs.declared.Choice.{Choice}
use Rattle.network_data.specs.Decode.{decode_network_data}
use Rattle.network_data.specs.declared.PrefixEntry.{PrefixEntry}
use Rattle.network_data.specs.declared.HasRouteEntry.{HasRouteEntry}
use Rattle.network_data.specs.declared.BorderRouterEntry.{BorderRouterEntry}
use Rattle.listing.specs.Listing.{listed, hex_by, listed_hex, line_of, told, report_by, report}
use Rattle.change_lists.specs.Operations.{operations}
use Rattle.house_template.specs.Template.{supplied, on_supply, supplied_spot, whichever, supplied_value}
use Rattle.nested_listing.specs.Nested.{nested}
use Rattle.nested_listing.specs.Report.{nested_hex, nested_report}
use Rattle.dataset_parts.specs.Parts.{name_entry, mask_as}
use Rattle.diag_entries.specs.Checked.{checked}
use Rattle.diag_entries.specs.Lists.{child_list}
use Rattle.network_plans.specs.Tables as network
use Rattle.delay.specs.Delay.{delay_or, due_or}
use Rattle.change_folds.specs.Run.{ran}
use Rattle.change_folds.specs.Fold.{folded, folded_two}
use Rattle.diag.specs.Diag.{decode}
use Rattle.diag.specs.declared.NetDiagData.{NetDiagData}
use Rattle.pairing.specs.Payload.{codes, row_pairing}
use Rattle.dataset_hex.specs.Hex.{hex_of, from_hex}
use Rattle.diag_tables.specs.Tables as payload
use Rattle.diag_tables.specs.Tables.{answered}
use Rattle.record_writing.specs.Lent.{Lent}
use Rattle.record_writing.specs.Written.{written}
use Rattle.sizes.specs.Within.{older, today, ForSize, Still}
use Rattle.sizes.specs.Calls as c
use Rattle.sizes.proofs.Laws.{still_of, still_on, still_part, NetworkKept, PayloadKept, still_network, still_payload}
use Rattle.sizes.proofs.Older as o
use Rattle.sizes.proofs.Today as t

by_today : {A : Type 0} {a b d : Answer A} → b ≡ d → Still a b → Still a d
by_today {A} {a} {b} {d} e s = subst (Still a) e s

-- ---- framing, lists, hex text
pub older_framed : (i : ℕ) (s : List ℕ) → Still (c.framed_in older i s) (framed i s)
older_framed i s = by_today (t.framed_today i s) (o.framed_still older today o.older_under i s)

pub older_count : (i : ℕ) (s : List ℕ) → Still (on_given length (c.framed_in older i s)) (count i s)
unfolding count
older_count i s = still_on length (c.framed_in older i s) (framed i s) (older_framed i s)

pub older_operations : (i : ℕ) (s : List ℕ) → Still (c.operations_in older i s) (operations i s)
older_operations i s = by_today (t.operations_today i s) (o.operations_still older today o.older_under i s)

pub older_decoded : (x : List ℕ) → Still (c.decoded_in older x) (decoded x)
older_decoded x = by_today (t.decoded_today x) (o.decoded_still older today o.older_under x)

-- ---- bare values
pub older_wrong_length : {A : Type 0} (place n : ℕ) → Still {A = A} (c.wrong_length_in older place n) (wrong_length place n)
older_wrong_length place n = by_today (t.wrong_length_today place n) (o.wrong_length_still older today o.older_under place n)

pub older_ruled : (k place : ℕ) (v : List ℕ) → Still (c.ruled_in older k place v) (ruled k place v)
older_ruled k place v = by_today (t.ruled_today k place v) (o.ruled_still older today o.older_under k place v)

pub older_sized_value : (v : List ℕ) → Still (c.sized_value_in older v) (sized_value v)
older_sized_value v = by_today (t.sized_value_today v) (o.sized_value_still older today o.older_under v)

pub older_name : (place : ℕ) (v : List ℕ) → Still (c.name_in older place v) (name_at place v)
older_name place v = by_today (t.name_today place v) (o.name_still older today o.older_under place v)

pub older_mask : (place : ℕ) (v : List ℕ) → Still (c.mask_in older place v) (items place v)
older_mask place v = by_today (t.mask_today place v) (o.mask_still older today o.older_under place v)

pub older_network_lem : (place : ℕ) (v : List ℕ) → Still (c.network_in older place v) (decode_network_data place v)
older_network_lem place v = by_today (t.network_today place v) (o.network_still older today o.older_under place v)

pub older_value : (ty place : ℕ) (v : List ℕ) → Still (c.value_in older ty place v) (value_of ty place v)
older_value ty place v = by_today (t.value_today ty place v) (o.value_still older today o.older_under ty place v)

-- ---- queries
pub older_last : (ty i : ℕ) (s : List ℕ) → Still (c.last_in older ty i s) (last_entry ty i s)
older_last ty i s = by_today (t.last_today ty i s) (o.last_still older today o.older_under ty i s)

pub older_supplied_lem : (ty : ℕ) (d h : List ℕ) → Still (c.supplied_in older ty d h) (supplied ty d h)
older_supplied_lem ty d h = by_today (t.supplied_today ty d h) (o.supplied_still older today o.older_under ty d h)

pub older_spot : (ty i : ℕ) (s : List ℕ) → Still (on_given spot (c.last_in older ty i s)) (last_spot ty i s)
unfolding last_spot
older_spot ty i s = still_on spot (c.last_in older ty i s) (last_entry ty i s) (older_last ty i s)

pub older_supplied_spot : (ty : ℕ) (d h : List ℕ) → Still (on_given (on_supply spot) (c.supplied_in older ty d h)) (supplied_spot ty d h)
unfolding supplied_spot
older_supplied_spot ty d h = still_on (on_supply spot) (c.supplied_in older ty d h) (supplied ty d h) (older_supplied_lem ty d h)

pub older_query : {A : Type 0} (ty : ℕ) (f : List ℕ → A) (s : List ℕ) → Still (c.query_in older ty f s) (query ty f s)
older_query ty f s = by_today (t.query_today ty f s) (o.query_still older today o.older_under ty f s)

pub older_name_entry : (s : List ℕ) → Still (c.name_entry_in older s) (name_entry s)
older_name_entry s = by_today (t.name_entry_today s) (o.name_entry_still older today o.older_under s)

pub older_mask_as : {A : Type 0} (f : Entry → List Masked → A) (s : List ℕ) → Still (c.mask_as_in older f s) (mask_as f s)
older_mask_as f s = by_today (t.mask_as_today f s) (o.mask_as_still older today o.older_under f s)

pub older_delay : (d : ℕ) (s : List ℕ) → Still (c.delay_in older d s) (delay_or d s)
older_delay d s = by_today (t.delay_today d s) (o.delay_still older today o.older_under d s)

pub older_due : (d : ℕ) (s : List ℕ) (clock : ℕ) → Still (c.due_in older d s clock) (due_or d s clock)
older_due d s clock = by_today (t.due_today d s clock) (o.due_still older today o.older_under d s clock)

-- ---- listings
pub older_listed : (s : List ℕ) → Still (c.listed_in older s) (listed s)
older_listed s = by_today (t.listed_today s) (o.listed_still older today o.older_under s)

pub older_nested : (s : List ℕ) → Still (c.nested_in older s) (nested s)
older_nested s = by_today (t.nested_today s) (o.nested_still older today o.older_under s)

pub older_listed_hex : (x : List ℕ) → Still (c.hex_by_in older (c.listed_in older) x) (listed_hex x)
unfolding hex_by
older_listed_hex x =
    by_today (t.hex_by_today listed x)
    (o.hex_by_still older today o.older_under (c.listed_in older) listed older_listed x)

pub older_nested_hex : (x : List ℕ) → Still (c.hex_by_in older (c.nested_in older) x) (nested_hex x)
unfolding hex_by
older_nested_hex x =
    by_today (t.hex_by_today nested x)
    (o.hex_by_still older today o.older_under (c.nested_in older) nested older_nested x)

-- ---- edits
pub older_rewritten : (k : Choice) (s : List ℕ) → Still (c.rewritten_in older k s) (rewritten k s)
older_rewritten k s = by_today (t.rewritten_today k s) (o.rewritten_still older today o.older_under k s)

pub older_with_set : (ty : ℕ) (v s : List ℕ) → Still (c.with_set_in older ty v s) (with_set ty v s)
older_with_set ty v s = by_today (t.with_set_today ty v s) (o.with_set_still older today o.older_under ty v s)

pub older_with_pushed : (ty : ℕ) (v s : List ℕ) → Still (c.with_pushed_in older ty v s) (with_pushed ty v s)
older_with_pushed ty v s = by_today (t.with_pushed_today ty v s) (o.with_pushed_still older today o.older_under ty v s)

pub older_hex_of : (s : List ℕ) → Still (c.hex_of_in older s) (hex_of s)
older_hex_of s = by_today (t.hex_of_today s) (o.hex_of_still older today o.older_under s)

pub older_from_hex : (x : List ℕ) → Still (c.from_hex_in older x) (from_hex x)
older_from_hex x = by_today (t.from_hex_today x) (o.from_hex_still older today o.older_under x)

-- ---- change lists
pub older_ran : (d l : List ℕ) → Still (c.ran_in older d l) (ran d l)
older_ran d l = by_today (t.ran_today d l) (o.ran_still older today o.older_under d l)

pub older_folded : (l : List ℕ) → Still (c.folded_in older l) (folded l)
older_folded l = by_today (t.folded_today l) (o.folded_still older today o.older_under l)

pub older_folded_two : (a b : List ℕ) → Still (c.folded_two_in older a b) (folded_two a b)
older_folded_two a b = by_today (t.folded_two_today a b) (o.folded_two_still older today o.older_under a b)

-- ---- payloads
pub older_checked : (s : List ℕ) → Still (c.checked_in older s) (checked s)
older_checked s = by_today (t.checked_today s) (o.checked_still older today o.older_under s)

pub older_decode : (s : List ℕ) → Still (c.decode_in older s) (decode s)
older_decode s = by_today (t.decode_today s) (o.decode_still older today o.older_under s)

pub older_answered : (s : List ℕ) (p h b : ℕ) → Still (c.answered_in older s p h b) (answered s p h b)
older_answered s p h b = by_today (t.answered_today s p h b) (o.answered_still older today o.older_under s p h b)

pub older_child_list : (k : ℕ) (s : List ℕ) → Still (c.child_list_in older k s) (child_list k s)
older_child_list k s = by_today (t.child_list_today k s) (o.child_list_still older today o.older_under k s)

pub older_codes : (s : List ℕ) → Still (c.codes_in older s) (codes s)
older_codes s = by_today (t.codes_today s) (o.codes_still older today o.older_under s)

pub older_row_pairing : (k : ℕ) (s : List ℕ) → Still (c.row_pairing_in older k s) (row_pairing k s)
older_row_pairing k s = by_today (t.row_pairing_today k s) (o.row_pairing_still older today o.older_under k s)

pub older_written : (r : NetDiagData) (l : Lent) → Still (c.written_in older r l) (written r l)
older_written r l = by_today (t.written_today r l) (o.written_still older today o.older_under r l)

-- ---- parts of the caller's bytes, what the programs print, lent tables: the older handset's answer is refused for size, or they are the library's
pub older_last_value : (ty : ℕ) (s : List ℕ)
    → (ForSize (c.last_in older ty 0 s) × (value_or (c.last_in older ty 0 s) ≡ [])) ⊎ (value_or (c.last_in older ty 0 s) ≡ last_value ty s)
unfolding last_value
older_last_value ty s = still_part (c.last_in older ty 0 s) (last_entry ty 0 s) (older_last ty 0 s)

abbrev older_supplied : (ty : ℕ) → (dataset template : List ℕ) → Answer Entry
older_supplied ty d h = on_given whichever (c.supplied_in older ty d h)

pub older_supplied_value : (ty : ℕ) (d h : List ℕ)
    → (ForSize (older_supplied ty d h) × (value_or (older_supplied ty d h) ≡ [])) ⊎ (value_or (older_supplied ty d h) ≡ supplied_value ty d h)
unfolding supplied_value
older_supplied_value ty d h =
    still_part (older_supplied ty d h) (on_given whichever (supplied ty d h)) (still_on whichever (c.supplied_in older ty d h) (supplied ty d h) (older_supplied_lem ty d h))

pub older_report : (x : List ℕ)
    → ForSize (c.hex_by_in older (c.listed_in older) (line_of x)) ⊎ (told (c.hex_by_in older (c.listed_in older) (line_of x)) ≡ report x)
unfolding report_by
older_report x = still_of (c.hex_by_in older (c.listed_in older) (line_of x)) (listed_hex (line_of x)) told (older_listed_hex (line_of x))

pub older_nested_report : (x : List ℕ)
    → ForSize (c.hex_by_in older (c.nested_in older) (line_of x)) ⊎ (told (c.hex_by_in older (c.nested_in older) (line_of x)) ≡ nested_report x)
unfolding report_by
older_nested_report x = still_of (c.hex_by_in older (c.nested_in older) (line_of x)) (nested_hex (line_of x)) told (older_nested_hex (line_of x))

module _ (P : List PrefixEntry) (H : List HasRouteEntry) (B : List BorderRouterEntry) where
  abbrev older_network : List ℕ → network.Outcome
  older_network v = network.decoded (c.network_in older 0 v) P H B

  pub older_network_tables : (v : List ℕ)
      → (ForSize (older_network v).answer × NetworkKept P H B (older_network v)) ⊎ (older_network v ≡ network.decoded (decode_network_data 0 v) P H B)
  older_network_tables v = still_network P H B (c.network_in older 0 v) (decode_network_data 0 v) (older_network_lem 0 v)

  abbrev older_payload : List ℕ → payload.Outcome
  older_payload s = payload.written (c.answered_in older s (length P) (length H) (length B)) P H B

  pub older_payload_tables : (s : List ℕ)
      → (ForSize (older_payload s).answer × PayloadKept P H B (older_payload s)) ⊎ (older_payload s ≡ payload.decoded s P H B)
  unfolding payload.decoded
  older_payload_tables s =
      still_payload P H B (c.answered_in older s (length P) (length H) (length B)) (answered s (length P) (length H) (length B))
      (older_answered s (length P) (length H) (length B))
