-- The library's definitions within any sizes, each as its crate has it; proofs/Today.antt: within today's sizes it is the one that the call's promise cites.
-- Assumes nothing.
use Rattle.std.specs.Prelude.{ℕ, ◌+◌, List, [], ◌∷◌, ◌++◌, map, length, ltb, eqb}
use Rattle.refusal.specs.Sizes.{most_value}
use Rattle.refusal.specs.Answer.{pick, Answer, given, absent, refused, then_do, on_given}
use Rattle.refusal.specs.Numbered.{nth}
use Rattle.tlv.specs.Entries.{Entry, Content, contents}
use Rattle.tlv.specs.Limits.{framed_within}
use Rattle.utf8.specs.Utf8.{octets}
use Rattle.base16.specs.Base16.{decoded_within}
use Rattle.hex_text.specs.HexText.{hex_text}
use Rattle.wire.specs.Be.{be}
use Rattle.channel_masks.specs.Mask.{Masked, items_in}
use Rattle.network_data.specs.Decode as nd
use Rattle.network_data.specs.Rules.{check_value}
use Rattle.network_data.specs.declared.Counts.{Counts}
use Rattle.diag_rules.specs.Rule.{keeps_rule}
use Rattle.tlv_writing.specs.Encode.{encode_all, sized_within}
use Rattle.tlv_last.specs.Last.{last_of}
use Rattle.dataset.specs.Queries.{rules, length_in}
use Rattle.tlv_rewriting.specs.Rewrite.{kept, set_last, pushed}
use Rattle.tlv_rewriting.specs.declared.Choice.{Choice}
use Rattle.tlv_rewriting.specs.declared.Choice.TheVariants.{All}
use Rattle.change_lists.specs.Operations.{Op, OpAt, bare, operations_within}
use Rattle.change_folds.specs.Run.{run_all}
use Rattle.change_folds.specs.Fold.{fold_all, sized_ops_within}
use Rattle.delay.specs.Delay.{most_now, or_else, seconds}
use Rattle.listing.specs.Listing.{listing}
use Rattle.house_template.specs.Template.{Supply, site_first}
use Rattle.nested_listing.specs.Tree.{lines}
use Rattle.nested_listing.specs.Nested.{payload}
use Rattle.diag_entries.specs.Lists.{AddressList, address_lists}
use Rattle.diag.specs.Diag.{Diag, diag}
use Rattle.diag.specs.declared.NetDiagData.{NetDiagData}
use Rattle.diag_tables.specs.Tables.{roomed}
use Rattle.pair_rule.specs.declared.Pairing.{Pairing}
use Rattle.pair_rule.specs.Codes.{code_of}
use Rattle.pairing.specs.Payload.{pairings}
use Rattle.record_writing.specs.Values.{entries_of}
use Rattle.record_writing.specs.Fits.{passes, values_fit}
use Rattle.record_writing.specs.Lent.{Lent, opt_counts, values_of}
use Rattle.record_writing.specs.Written.{lengths_fit, counts_fit, agrees}
use Rattle.sizes.specs.Within.{Sizes}

module _ (z : Sizes) where
  -- ---- framing, lists, hex text, results
  abbrev pub framed_in : (input : ℕ) → List ℕ → Answer (List Entry)
  framed_in i s = framed_within z.bytes z.entries i s

  abbrev pub operations_in : (input : ℕ) → List ℕ → Answer (List OpAt)
  operations_in i s = operations_within z.bytes z.entries i s

  abbrev pub decoded_in : List ℕ → Answer (List ℕ)
  decoded_in x = decoded_within z.digits x

  abbrev pub sized_in : List Content → Answer (List ℕ)
  sized_in cs = sized_within z.bytes z.entries cs

  abbrev pub sized_ops_in : List Op → Answer (List ℕ)
  sized_ops_in os = sized_ops_within z.bytes z.entries os

  -- ---- bare values; `within` is the test for 1 that their definitions begin with
  abbrev pub within : {A : Type 0} → List ℕ → Answer A → Answer A
  within v a = pick (ltb z.bytes (length v)) (refused 1 0 0) a

  unfoldable pub wrong_length_in : {A : Type 0} → (place n : ℕ) → Answer A
  wrong_length_in place n = pick (ltb z.bytes n) (refused 1 0 0) (refused 4 place 0)

  unfoldable pub ruled_in : (k place : ℕ) → List ℕ → Answer (List ℕ)
  ruled_in k place v = pick (eqb (length v) k) (given v) (wrong_length_in place (length v))

  unfoldable pub sized_value_in : List ℕ → Answer (List ℕ)
  sized_value_in v = within v (given v)

  unfoldable pub name_in : (place : ℕ) → List ℕ → Answer (List ℕ)
  name_in place v = then_do (sized_value_in v) (λ (w : List ℕ). pick (octets w) (given w) (refused 6 place 0))

  unfoldable pub mask_in : (place : ℕ) → List ℕ → Answer (List Masked)
  mask_in place v = within v (items_in (length v) place v)

  unfoldable pub network_in : (place : ℕ) → List ℕ → Answer (List nd.Prefix)
  network_in place v = within v (on_given (λ (c : Counts). nd.contents v) (check_value place v))

  unfoldable pub value_in : (ty place : ℕ) → List ℕ → Answer (List ℕ)
  value_in t place v = within v (pick (keeps_rule t v) (given v) (refused 4 place 0))

  -- ---- queries
  unfoldable pub last_in : (ty input : ℕ) → List ℕ → Answer Entry
  last_in ty i s = then_do (framed_in i s) (last_of ty absent)

  unfoldable pub supplied_in : (ty : ℕ) → (dataset template : List ℕ) → Answer (Supply Entry)
  supplied_in ty d t = site_first (last_in ty 0 d) (last_in ty 1 t)

  unfoldable pub query_in : {A : Type 0} → (ty : ℕ) → (List ℕ → A) → List ℕ → Answer A
  query_in ty f s = then_do (last_in ty 0 s) (λ (e : Entry). on_given f (ruled_in (length_in rules ty) e.place e.value))

  unfoldable pub name_entry_in : List ℕ → Answer Entry
  name_entry_in s = then_do (last_in 3 0 s) (λ (e : Entry). on_given (λ (v : List ℕ). e) (name_in e.place e.value))

  abbrev pub mask_as_in : {A : Type 0} → (Entry → List Masked → A) → List ℕ → Answer A
  mask_as_in f s = then_do (last_in 53 0 s) (λ (e : Entry). on_given (f e) (mask_in e.place e.value))

  unfoldable pub delay_in : (default : ℕ) → List ℕ → Answer ℕ
  delay_in d s = or_else d (query_in 52 be s)

  unfoldable pub due_in : (default : ℕ) → List ℕ → (clock : ℕ) → Answer ℕ
  due_in d s clock = then_do (delay_in d s) (λ (ms : ℕ). pick (ltb most_now clock) (refused 14 0 0) (given (clock + seconds ms)))

  -- ---- listings
  unfoldable pub listed_in : List ℕ → Answer (List ℕ)
  listed_in s = on_given listing (framed_in 0 s)

  unfoldable pub nested_in : List ℕ → Answer (List ℕ)
  nested_in s = on_given (λ (es : List Entry). lines 0 (payload es)) (framed_in 0 s)

  unfoldable pub hex_by_in : (List ℕ → Answer (List ℕ)) → List ℕ → Answer (List ℕ)
  hex_by_in lists x = then_do (decoded_in x) lists

  -- ---- edits
  unfoldable pub rewritten_in : Choice → List ℕ → Answer (List ℕ)
  rewritten_in c s = on_given (λ (es : List Entry). encode_all (kept c (contents es))) (framed_in 0 s)

  abbrev pub changed_in : (List Content → List Content) → (value : List ℕ) → List ℕ → Answer (List ℕ)
  changed_in f v s = then_do (framed_in 0 s) (λ (es : List Entry). pick (ltb most_value (length v)) (refused 13 0 0) (sized_in (f (contents es))))

  unfoldable pub with_set_in : (ty : ℕ) → (value : List ℕ) → List ℕ → Answer (List ℕ)
  with_set_in t v s = changed_in (set_last t v) v s

  unfoldable pub with_pushed_in : (ty : ℕ) → (value : List ℕ) → List ℕ → Answer (List ℕ)
  with_pushed_in t v s = changed_in (pushed t v) v s

  unfoldable pub hex_of_in : List ℕ → Answer (List ℕ)
  hex_of_in s = on_given hex_text (rewritten_in All s)

  unfoldable pub well_framed_in : List ℕ → Answer (List ℕ)
  well_framed_in s = on_given (λ (es : List Entry). s) (framed_in 0 s)

  unfoldable pub from_hex_in : List ℕ → Answer (List ℕ)
  from_hex_in x = then_do (decoded_in x) well_framed_in

  -- ---- change lists
  unfoldable pub ran_in : (dataset list : List ℕ) → Answer (List ℕ)
  ran_in d l =
      then_do (framed_in 0 d)
      (λ (es : List Entry). then_do (operations_in 1 l) (λ (os : List OpAt). sized_in (run_all (bare os) (contents es))))

  unfoldable pub folded_in : List ℕ → Answer (List ℕ)
  folded_in l = then_do (operations_in 0 l) (λ (os : List OpAt). sized_ops_in (fold_all (bare os)))

  unfoldable pub folded_two_in : (first second : List ℕ) → Answer (List ℕ)
  folded_two_in a b =
      then_do (operations_in 0 a)
      (λ (os : List OpAt). then_do (operations_in 1 b) (λ (ps : List OpAt). sized_ops_in (fold_all (bare os ++ bare ps))))

  -- ---- payloads
  unfoldable pub entry_value_in : (ty place : ℕ) → List ℕ → Answer (List ℕ)
  entry_value_in ty place v = pick (eqb ty 7) (on_given (λ (ps : List nd.Prefix). v) (network_in place v)) (value_in ty place v)

  unfoldable pub decoding_in : List Entry → Answer (List Entry)
  decoding_in [] = given []
  decoding_in (e ∷ es) =
      then_do (entry_value_in e.ty e.place e.value) (λ (v : List ℕ). on_given (λ (xs : List Entry). e ∷ xs) (decoding_in es))

  unfoldable pub checked_in : List ℕ → Answer (List Entry)
  checked_in s = then_do (framed_in 0 s) decoding_in

  unfoldable pub decode_in : List ℕ → Answer Diag
  decode_in s = on_given diag (checked_in s)

  unfoldable pub answered_in : List ℕ → (p h b : ℕ) → Answer Diag
  answered_in s p h b = then_do (decode_in s) (λ (d : Diag). roomed d p h b)

  unfoldable pub child_list_in : (k : ℕ) → List ℕ → Answer AddressList
  child_list_in k s = then_do (checked_in s) (λ (es : List Entry). nth (address_lists es) k)

  unfoldable pub paired_in : List ℕ → Answer (List Pairing)
  paired_in s = on_given pairings (checked_in s)

  unfoldable pub codes_in : List ℕ → Answer (List ℕ)
  codes_in s = on_given (λ (ps : List Pairing). map code_of ps) (paired_in s)

  unfoldable pub row_pairing_in : (k : ℕ) → List ℕ → Answer Pairing
  row_pairing_in k s = then_do (paired_in s) (λ (ps : List Pairing). nth ps k)

  -- ---- the payload of a record
  unfoldable pub written_in : NetDiagData → Lent → Answer (List ℕ)
  written_in r l =
      pick (lengths_fit r l)
      (pick (passes counts_fit (opt_counts r.network_data))
      (pick (agrees r l) (pick (values_fit (values_of r l)) (sized_in (entries_of (values_of r l))) (refused 15 0 0)) (refused 15 0 0))
      (refused 12 0 0))
      (refused 13 0 0)
