-- OLD ONES READ THE SAME: each of these calls within the smaller sizes is refused for size, or answers just what it answers within the larger.
-- Assumes nothing.
use mathlib.Core.Path.{refl}
use mathlib.Core.Logic.{inl, inr}
use mathlib.Core.List.{List, [], ◌∷◌, ◌++◌, map}
use Prim.Native.Nat.{ℕ, ◌+◌}
use native.Mathlib.Omega.{arith}
use lib.ListN.{length}
use lib.Dec.{ltb, eqb}
use Rattle.refusal.specs.Sizes.{most_value}
use Rattle.refusal.specs.Answer.{pick, Answer, given, absent, refused, then_do, on_given}
use Rattle.refusal.specs.Numbered.{nth}
use Rattle.tlv.specs.Entries.{Entry, Content, contents, Stop, clean, cut_at, framing}
use Rattle.tlv.specs.Limits.{limited}
use Rattle.utf8.specs.Utf8.{octets}
use Rattle.hex_text.specs.HexText.{hex_text}
use Rattle.wire.specs.Be.{be}
use Rattle.channel_masks.specs.Mask.{Masked}
use Rattle.network_data.specs.Decode as nd
use Rattle.tlv_writing.specs.Encode.{encode_all}
use Rattle.tlv_last.specs.Last.{last_of}
use Rattle.dataset.specs.Queries.{rules, length_in}
use Rattle.tlv_rewriting.specs.Rewrite.{kept, set_last, pushed}
use Rattle.tlv_rewriting.specs.declared.Choice.{Choice}
use Rattle.tlv_rewriting.specs.declared.Choice.TheVariants.{All}
use Rattle.change_lists.specs.Operations.{Op, OpAt, bare, ops_of, limited_ops}
use Rattle.change_folds.specs.Run.{run_all}
use Rattle.change_folds.specs.Fold.{fold_all}
use Rattle.delay.specs.Delay.{most_now, seconds}
use Rattle.listing.specs.Listing.{listing}
use Rattle.nested_listing.specs.Tree.{lines}
use Rattle.nested_listing.specs.Nested.{payload}
use Rattle.diag_entries.specs.Lists.{address_lists}
use Rattle.diag.specs.Diag.{Diag, diag}
use Rattle.diag.specs.declared.NetDiagData.{NetDiagData}
use Rattle.diag_tables.specs.Tables.{roomed}
use Rattle.pair_rule.specs.declared.Pairing.{Pairing}
use Rattle.pair_rule.specs.Codes.{code_of}
use Rattle.pairing.specs.Payload.{pairings}
use Rattle.record_writing.specs.Values.{entries_of}
use Rattle.record_writing.specs.Fits.{passes, values_fit}
use Rattle.record_writing.specs.Lent.{Lent, opt_counts, values_of}
use Rattle.record_writing.specs.Written.{lengths_fit, counts_fit, agrees}
use Rattle.sizes.specs.Within.{Sizes, today, older, Under, Still, same}
use Rattle.sizes.specs.Calls as c
use Rattle.sizes.proofs.Laws.{still_then, still_on, still_else, still_first, still_pick, still_test}

-- "A handset not yet updated" has the smaller ones
pub older_under : Under older today
older_under = record { bytes = omega arith; entries = omega arith; digits = omega arith }

module _ (z y : Sizes) (u : Under z y) where
  -- ---- framing, lists, hex text, results
  limited_still : (i : ℕ) (st : Stop) (es : List Entry) → Still (limited z.entries i st es) (limited y.entries i st es)
  unfolding limited
  limited_still i (cut_at p) es = same refl
  limited_still i clean es = still_test z.entries y.entries (length es) _ _ (given es) (given es) u.entries (inr (inl refl)) (same refl)

  pub framed_still : (i : ℕ) (s : List ℕ) → Still (c.framed_in z i s) (c.framed_in y i s)
  framed_still i s =
      still_test z.bytes y.bytes (length s) (refused 1 0 i) (refused 1 0 i) _ _ u.bytes (inl refl) (limited_still i (framing s).stop (framing s).entries)

  limited_ops_lem : (i : ℕ) (st : Stop) (os : List OpAt) → Still (limited_ops z.entries i st os) (limited_ops y.entries i st os)
  unfolding limited_ops
  limited_ops_lem i (cut_at p) os = same refl
  limited_ops_lem i clean os = still_test z.entries y.entries (length os) _ _ (given os) (given os) u.entries (inr (inl refl)) (same refl)

  pub operations_still : (i : ℕ) (s : List ℕ) → Still (c.operations_in z i s) (c.operations_in y i s)
  operations_still i s =
      still_test z.bytes y.bytes (length s) (refused 1 0 i) (refused 1 0 i) _ _ u.bytes (inl refl) (limited_ops_lem i (ops_of s).stop (ops_of s).ops)

  pub decoded_still : (x : List ℕ) → Still (c.decoded_in z x) (c.decoded_in y x)
  decoded_still x = still_test z.digits y.digits (length x) (refused 1 0 0) (refused 1 0 0) _ _ u.digits (inl refl) (same refl)

  -- 10, by bytes and by entries
  ten : (n m : ℕ) (bs : List ℕ)
      → Still (pick (ltb z.bytes n) (refused 10 0 0) (pick (ltb z.entries m) (refused 10 0 0) (given bs)))
      (pick (ltb y.bytes n) (refused 10 0 0) (pick (ltb y.entries m) (refused 10 0 0) (given bs)))
  ten n m bs =
      still_test z.bytes y.bytes n (refused 10 0 0) (refused 10 0 0) _ _ u.bytes (inr (inr refl))
      (still_test z.entries y.entries m (refused 10 0 0) (refused 10 0 0) (given bs) (given bs) u.entries (inr (inr refl)) (same refl))

  pub sized_still : (cs : List Content) → Still (c.sized_in z cs) (c.sized_in y cs)
  sized_still cs = ten (length (encode_all cs)) (length cs) (encode_all cs)

  pub sized_ops_still : (os : List Op) → Still (c.sized_ops_in z os) (c.sized_ops_in y os)
  sized_ops_still os = ten _ (length os) _

  -- ---- bare values
  within_still : {A : Type 0} (v : List ℕ) (a b : Answer A) → Still a b → Still (c.within z v a) (c.within y v b)
  within_still v a b s = still_test z.bytes y.bytes (length v) (refused 1 0 0) (refused 1 0 0) a b u.bytes (inl refl) s

  pub wrong_length_still : {A : Type 0} (place n : ℕ) → Still {A = A} (c.wrong_length_in z place n) (c.wrong_length_in y place n)
  unfolding c.wrong_length_in
  wrong_length_still place n = still_test z.bytes y.bytes n (refused 1 0 0) (refused 1 0 0) (refused 4 place 0) (refused 4 place 0) u.bytes (inl refl) (same refl)

  pub ruled_still : (k place : ℕ) (v : List ℕ) → Still (c.ruled_in z k place v) (c.ruled_in y k place v)
  unfolding c.ruled_in
  ruled_still k place v = still_pick (eqb (length v) k) (given v) (given v) _ _ (same refl) (wrong_length_still place (length v))

  pub sized_value_still : (v : List ℕ) → Still (c.sized_value_in z v) (c.sized_value_in y v)
  unfolding c.sized_value_in
  sized_value_still v = within_still v (given v) (given v) (same refl)

  pub name_still : (place : ℕ) (v : List ℕ) → Still (c.name_in z place v) (c.name_in y place v)
  unfolding c.name_in
  name_still place v =
      still_then (c.sized_value_in z v) (c.sized_value_in y v) (λ (w : List ℕ). pick (octets w) (given w) (refused 6 place 0)) _ (sized_value_still v)
      (λ (w : List ℕ). same refl)

  pub mask_still : (place : ℕ) (v : List ℕ) → Still (c.mask_in z place v) (c.mask_in y place v)
  unfolding c.mask_in
  mask_still place v = within_still v _ _ (same refl)

  pub network_still : (place : ℕ) (v : List ℕ) → Still (c.network_in z place v) (c.network_in y place v)
  unfolding c.network_in
  network_still place v = within_still v _ _ (same refl)

  pub value_still : (ty place : ℕ) (v : List ℕ) → Still (c.value_in z ty place v) (c.value_in y ty place v)
  unfolding c.value_in
  value_still ty place v = within_still v _ _ (same refl)

  -- ---- queries
  pub last_still : (ty i : ℕ) (s : List ℕ) → Still (c.last_in z ty i s) (c.last_in y ty i s)
  unfolding c.last_in
  last_still ty i s = still_then (c.framed_in z i s) (c.framed_in y i s) (last_of ty absent) (last_of ty absent) (framed_still i s) (λ (es : List Entry). same refl)

  pub supplied_still : (ty : ℕ) (d t : List ℕ) → Still (c.supplied_in z ty d t) (c.supplied_in y ty d t)
  unfolding c.supplied_in
  supplied_still ty d t =
      still_first (c.last_in z ty 0 d) (c.last_in y ty 0 d) (c.last_in z ty 1 t) (c.last_in y ty 1 t) (last_still ty 0 d) (last_still ty 1 t)

  pub query_still : {A : Type 0} (ty : ℕ) (f : List ℕ → A) (s : List ℕ) → Still (c.query_in z ty f s) (c.query_in y ty f s)
  unfolding c.query_in
  query_still ty f s =
      let k = length_in rules ty in
      still_then (c.last_in z ty 0 s) (c.last_in y ty 0 s) (λ (e : Entry). on_given f (c.ruled_in z k e.place e.value))
      (λ (e : Entry). on_given f (c.ruled_in y k e.place e.value)) (last_still ty 0 s)
      (λ (e : Entry). still_on f (c.ruled_in z k e.place e.value) (c.ruled_in y k e.place e.value) (ruled_still k e.place e.value))

  pub name_entry_still : (s : List ℕ) → Still (c.name_entry_in z s) (c.name_entry_in y s)
  unfolding c.name_entry_in
  name_entry_still s =
      still_then (c.last_in z 3 0 s) (c.last_in y 3 0 s) (λ (e : Entry). on_given (λ (v : List ℕ). e) (c.name_in z e.place e.value))
      (λ (e : Entry). on_given (λ (v : List ℕ). e) (c.name_in y e.place e.value)) (last_still 3 0 s)
      (λ (e : Entry). still_on (λ (v : List ℕ). e) (c.name_in z e.place e.value) (c.name_in y e.place e.value) (name_still e.place e.value))

  pub mask_as_still : {A : Type 0} (f : Entry → List Masked → A) (s : List ℕ) → Still (c.mask_as_in z f s) (c.mask_as_in y f s)
  mask_as_still f s =
      still_then (c.last_in z 53 0 s) (c.last_in y 53 0 s) (λ (e : Entry). on_given (f e) (c.mask_in z e.place e.value))
      (λ (e : Entry). on_given (f e) (c.mask_in y e.place e.value)) (last_still 53 0 s)
      (λ (e : Entry). still_on (f e) (c.mask_in z e.place e.value) (c.mask_in y e.place e.value) (mask_still e.place e.value))

  pub delay_still : (d : ℕ) (s : List ℕ) → Still (c.delay_in z d s) (c.delay_in y d s)
  unfolding c.delay_in
  delay_still d s = still_else d (c.query_in z 52 be s) (c.query_in y 52 be s) (query_still 52 be s)

  pub due_still : (d : ℕ) (s : List ℕ) (clock : ℕ) → Still (c.due_in z d s clock) (c.due_in y d s clock)
  unfolding c.due_in
  due_still d s clock =
      still_then (c.delay_in z d s) (c.delay_in y d s) (λ (ms : ℕ). pick (ltb most_now clock) (refused 14 0 0) (given (clock + seconds ms))) _ (delay_still d s)
      (λ (ms : ℕ). same refl)

  -- ---- listings
  pub listed_still : (s : List ℕ) → Still (c.listed_in z s) (c.listed_in y s)
  unfolding c.listed_in
  listed_still s = still_on listing (c.framed_in z 0 s) (c.framed_in y 0 s) (framed_still 0 s)

  pub nested_still : (s : List ℕ) → Still (c.nested_in z s) (c.nested_in y s)
  unfolding c.nested_in
  nested_still s = still_on (λ (es : List Entry). lines 0 (payload es)) (c.framed_in z 0 s) (c.framed_in y 0 s) (framed_still 0 s)

  pub hex_by_still : (f g : List ℕ → Answer (List ℕ)) → ((s : List ℕ) → Still (f s) (g s)) → (x : List ℕ) → Still (c.hex_by_in z f x) (c.hex_by_in y g x)
  unfolding c.hex_by_in
  hex_by_still f g h x = still_then (c.decoded_in z x) (c.decoded_in y x) f g (decoded_still x) h

  -- ---- edits
  pub rewritten_still : (k : Choice) (s : List ℕ) → Still (c.rewritten_in z k s) (c.rewritten_in y k s)
  unfolding c.rewritten_in
  rewritten_still k s = still_on (λ (es : List Entry). encode_all (kept k (contents es))) (c.framed_in z 0 s) (c.framed_in y 0 s) (framed_still 0 s)

  changed_still : (f : List Content → List Content) (v s : List ℕ) → Still (c.changed_in z f v s) (c.changed_in y f v s)
  changed_still f v s =
      still_then (c.framed_in z 0 s) (c.framed_in y 0 s)
      (λ (es : List Entry). pick (ltb most_value (length v)) (refused 13 0 0) (c.sized_in z (f (contents es))))
      (λ (es : List Entry). pick (ltb most_value (length v)) (refused 13 0 0) (c.sized_in y (f (contents es)))) (framed_still 0 s)
      (λ (es : List Entry). still_pick (ltb most_value (length v)) (refused 13 0 0) (refused 13 0 0) _ _ (same refl) (sized_still (f (contents es))))

  pub with_set_still : (t : ℕ) (v s : List ℕ) → Still (c.with_set_in z t v s) (c.with_set_in y t v s)
  unfolding c.with_set_in
  with_set_still t v s = changed_still (set_last t v) v s

  pub with_pushed_still : (t : ℕ) (v s : List ℕ) → Still (c.with_pushed_in z t v s) (c.with_pushed_in y t v s)
  unfolding c.with_pushed_in
  with_pushed_still t v s = changed_still (pushed t v) v s

  pub hex_of_still : (s : List ℕ) → Still (c.hex_of_in z s) (c.hex_of_in y s)
  unfolding c.hex_of_in
  hex_of_still s = still_on hex_text (c.rewritten_in z All s) (c.rewritten_in y All s) (rewritten_still All s)

  well_framed_still : (s : List ℕ) → Still (c.well_framed_in z s) (c.well_framed_in y s)
  unfolding c.well_framed_in
  well_framed_still s = still_on (λ (es : List Entry). s) (c.framed_in z 0 s) (c.framed_in y 0 s) (framed_still 0 s)

  pub from_hex_still : (x : List ℕ) → Still (c.from_hex_in z x) (c.from_hex_in y x)
  unfolding c.from_hex_in
  from_hex_still x = still_then (c.decoded_in z x) (c.decoded_in y x) (c.well_framed_in z) (c.well_framed_in y) (decoded_still x) well_framed_still

  -- ---- change lists
  pub ran_still : (d l : List ℕ) → Still (c.ran_in z d l) (c.ran_in y d l)
  unfolding c.ran_in
  ran_still d l =
      still_then (c.framed_in z 0 d) (c.framed_in y 0 d)
      (λ (es : List Entry). then_do (c.operations_in z 1 l) (λ (os : List OpAt). c.sized_in z (run_all (bare os) (contents es))))
      (λ (es : List Entry). then_do (c.operations_in y 1 l) (λ (os : List OpAt). c.sized_in y (run_all (bare os) (contents es))))
      (framed_still 0 d)
      (λ (es : List Entry). still_then (c.operations_in z 1 l) (c.operations_in y 1 l)
      (λ (os : List OpAt). c.sized_in z (run_all (bare os) (contents es)))
      (λ (os : List OpAt). c.sized_in y (run_all (bare os) (contents es)))
      (operations_still 1 l) (λ (os : List OpAt). sized_still (run_all (bare os) (contents es))))

  pub folded_still : (l : List ℕ) → Still (c.folded_in z l) (c.folded_in y l)
  unfolding c.folded_in
  folded_still l =
      still_then (c.operations_in z 0 l) (c.operations_in y 0 l) (λ (os : List OpAt). c.sized_ops_in z (fold_all (bare os)))
      (λ (os : List OpAt). c.sized_ops_in y (fold_all (bare os))) (operations_still 0 l)
      (λ (os : List OpAt). sized_ops_still (fold_all (bare os)))

  pub folded_two_still : (a b : List ℕ) → Still (c.folded_two_in z a b) (c.folded_two_in y a b)
  unfolding c.folded_two_in
  folded_two_still a b =
      still_then (c.operations_in z 0 a) (c.operations_in y 0 a)
      (λ (os : List OpAt). then_do (c.operations_in z 1 b) (λ (ps : List OpAt). c.sized_ops_in z (fold_all (bare os ++ bare ps))))
      (λ (os : List OpAt). then_do (c.operations_in y 1 b) (λ (ps : List OpAt). c.sized_ops_in y (fold_all (bare os ++ bare ps))))
      (operations_still 0 a)
      (λ (os : List OpAt). still_then (c.operations_in z 1 b) (c.operations_in y 1 b)
      (λ (ps : List OpAt). c.sized_ops_in z (fold_all (bare os ++ bare ps)))
      (λ (ps : List OpAt). c.sized_ops_in y (fold_all (bare os ++ bare ps)))
      (operations_still 1 b) (λ (ps : List OpAt). sized_ops_still (fold_all (bare os ++ bare ps))))

  -- ---- payloads
  entry_value_still : (ty place : ℕ) (v : List ℕ) → Still (c.entry_value_in z ty place v) (c.entry_value_in y ty place v)
  unfolding c.entry_value_in
  entry_value_still ty place v =
      still_pick (eqb ty 7) _ _ _ _ (still_on (λ (ps : List nd.Prefix). v) (c.network_in z place v) (c.network_in y place v) (network_still place v))
      (value_still ty place v)

  decoding_still : (es : List Entry) → Still (c.decoding_in z es) (c.decoding_in y es)
  unfolding c.decoding_in
  decoding_still [] = same refl
  decoding_still (e ∷ es) =
      still_then (c.entry_value_in z e.ty e.place e.value) (c.entry_value_in y e.ty e.place e.value)
      (λ (v : List ℕ). on_given (λ (xs : List Entry). e ∷ xs) (c.decoding_in z es)) (λ (v : List ℕ). on_given (λ (xs : List Entry). e ∷ xs) (c.decoding_in y es))
      (entry_value_still e.ty e.place e.value)
      (λ (v : List ℕ). still_on (λ (xs : List Entry). e ∷ xs) (c.decoding_in z es) (c.decoding_in y es) (decoding_still es))

  pub checked_still : (s : List ℕ) → Still (c.checked_in z s) (c.checked_in y s)
  unfolding c.checked_in
  checked_still s = still_then (c.framed_in z 0 s) (c.framed_in y 0 s) (c.decoding_in z) (c.decoding_in y) (framed_still 0 s) decoding_still

  pub decode_still : (s : List ℕ) → Still (c.decode_in z s) (c.decode_in y s)
  unfolding c.decode_in
  decode_still s = still_on diag (c.checked_in z s) (c.checked_in y s) (checked_still s)

  pub answered_still : (s : List ℕ) (p h b : ℕ) → Still (c.answered_in z s p h b) (c.answered_in y s p h b)
  unfolding c.answered_in
  answered_still s p h b =
      still_then (c.decode_in z s) (c.decode_in y s) (λ (d : Diag). roomed d p h b) (λ (d : Diag). roomed d p h b) (decode_still s) (λ (d : Diag). same refl)

  pub child_list_still : (k : ℕ) (s : List ℕ) → Still (c.child_list_in z k s) (c.child_list_in y k s)
  unfolding c.child_list_in
  child_list_still k s =
      still_then (c.checked_in z s) (c.checked_in y s) (λ (es : List Entry). nth (address_lists es) k) (λ (es : List Entry). nth (address_lists es) k)
      (checked_still s) (λ (es : List Entry). same refl)

  pub paired_still : (s : List ℕ) → Still (c.paired_in z s) (c.paired_in y s)
  unfolding c.paired_in
  paired_still s = still_on pairings (c.checked_in z s) (c.checked_in y s) (checked_still s)

  pub codes_still : (s : List ℕ) → Still (c.codes_in z s) (c.codes_in y s)
  unfolding c.codes_in
  codes_still s = still_on (λ (ps : List Pairing). map code_of ps) (c.paired_in z s) (c.paired_in y s) (paired_still s)

  pub row_pairing_still : (k : ℕ) (s : List ℕ) → Still (c.row_pairing_in z k s) (c.row_pairing_in y k s)
  unfolding c.row_pairing_in
  row_pairing_still k s =
      still_then (c.paired_in z s) (c.paired_in y s) (λ (ps : List Pairing). nth ps k) (λ (ps : List Pairing). nth ps k) (paired_still s) (λ (ps : List Pairing). same refl)

  -- ---- the payload of a record
  pub written_still : (r : NetDiagData) (l : Lent) → Still (c.written_in z r l) (c.written_in y r l)
  unfolding c.written_in
  written_still r l =
      still_pick (lengths_fit r l) _ _ _ _
      (still_pick (passes counts_fit (opt_counts r.network_data)) _ _ _ _
      (still_pick (agrees r l) _ _ _ _ (still_pick (values_fit (values_of r l)) _ _ _ _ (sized_still (entries_of (values_of r l))) (same refl)) (same refl)) (same refl))
      (same refl)
