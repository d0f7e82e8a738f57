-- "refuses a larger one with 1 or 3 and never shows part of it", of each call and for any sizes: where a dataset or payload is larger than they are, it answers
-- 1 or 3, or 2 where it is cut short; where a list is, 1 or 3, or 9 where an operation is none; where hex text or a bare value is, 1; where the result is, 10.
-- Assumes nothing.
use mathlib.Core.Path.{◌≡◌}
use mathlib.Core.Logic.{◌⊎◌}
use mathlib.Core.List.{List, ◌++◌, map}
use Prim.Native.Nat.{ℕ, ◌+◌, ◌≤◌, ◌<◌}
use native.Mathlib.Omega.{arith}
use lib.ListN.{length}
use lib.Dec.{ltb}
use borrow.Author.Tests.{lt-ltb, ne_eqb}
use Rattle.refusal.specs.Sizes.{most_value}
use Rattle.refusal.specs.Answer.{pick, Answer, given, absent, refused, then_do, on_given}
use Rattle.refusal.specs.Numbered.{nth}
use Rattle.tlv.specs.Entries.{Entry, Content, contents, framing}
use Rattle.hex_text.specs.HexText.{hex_text}
use Rattle.wire.specs.Be.{be}
use Rattle.pair_rule.specs.declared.Pairing.{Pairing}
use Rattle.pair_rule.specs.Codes.{code_of}
use Rattle.tlv_writing.specs.Encode.{encode_all}
use Rattle.channel_masks.specs.Mask.{Masked}
use Rattle.tlv_last.specs.Last.{last_of}
use Rattle.dataset.specs.Queries.{rules, length_in}
use Rattle.tlv_rewriting.specs.Rewrite.{kept, set_last, pushed}
use Rattle.tlv_rewriting.specs.declared.Choice.{Choice}
use Rattle.tlv_rewriting.specs.declared.Choice.TheVariants.{All}
use Rattle.listing.specs.Listing.{listing}
use Rattle.change_lists.specs.Operations.{Op, OpAt, bare, ops_of, encode_ops}
use Rattle.nested_listing.specs.Tree.{lines}
use Rattle.nested_listing.specs.Nested.{payload}
use Rattle.diag_entries.specs.Lists.{address_lists}
use Rattle.delay.specs.Delay.{most_now, seconds}
use Rattle.change_folds.specs.Run.{run_all}
use Rattle.change_folds.specs.Fold.{fold_all}
use Rattle.diag.specs.Diag.{Diag, diag}
use Rattle.pairing.specs.Payload.{pairings}
use Rattle.diag_tables.specs.Tables.{roomed}
use Rattle.sizes.specs.Within.{Sizes}
use Rattle.sizes.specs.Calls as c
use Rattle.sizes.proofs.Framing.{Turned, turned_then, turned_on, turned_else, turned_site, turned_template, last_answered, framed_larger, operations_larger, decoded_larger, tested_larger}

module _ (z : Sizes) where
  -- a dataset or payload, and a change list
  abbrev pub Larger : List ℕ → Type 0
  Larger s = (z.bytes < length s) ⊎ (z.entries < length (framing s).entries)

  abbrev pub LargerList : List ℕ → Type 0
  LargerList l = (z.bytes < length l) ⊎ (z.entries < length (ops_of l).ops)

  module _ (s : List ℕ) (h : Larger s) where
    larger_framed : (i : ℕ) → Turned i 2 (framing s).stop (c.framed_in z i s)
    larger_framed i = framed_larger z.bytes z.entries i s h

    -- ---- queries
    pub larger_last : (ty i : ℕ) → Turned i 2 (framing s).stop (c.last_in z ty i s)
    unfolding c.last_in
    larger_last ty i = turned_then i 2 (framing s).stop (c.framed_in z i s) (last_of ty absent) (larger_framed i)

    pub larger_query : {A : Type 0} (ty : ℕ) (f : List ℕ → A) → Turned 0 2 (framing s).stop (c.query_in z ty f s)
    unfolding c.query_in
    larger_query ty f =
        turned_then 0 2 (framing s).stop (c.last_in z ty 0 s) (λ (e : Entry). on_given f (c.ruled_in z (length_in rules ty) e.place e.value)) (larger_last ty 0)

    pub larger_name_entry : Turned 0 2 (framing s).stop (c.name_entry_in z s)
    unfolding c.name_entry_in
    larger_name_entry =
        turned_then 0 2 (framing s).stop (c.last_in z 3 0 s) (λ (e : Entry). on_given (λ (v : List ℕ). e) (c.name_in z e.place e.value)) (larger_last 3 0)

    pub larger_mask_as : {A : Type 0} (f : Entry → List Masked → A) → Turned 0 2 (framing s).stop (c.mask_as_in z f s)
    larger_mask_as f = turned_then 0 2 (framing s).stop (c.last_in z 53 0 s) (λ (e : Entry). on_given (f e) (c.mask_in z e.place e.value)) (larger_last 53 0)

    pub larger_delay : (d : ℕ) → Turned 0 2 (framing s).stop (c.delay_in z d s)
    unfolding c.delay_in
    larger_delay d = turned_else 0 2 (framing s).stop d (c.query_in z 52 be s) (larger_query 52 be)

    pub larger_due : (d clock : ℕ) → Turned 0 2 (framing s).stop (c.due_in z d s clock)
    unfolding c.due_in
    larger_due d clock =
        turned_then 0 2 (framing s).stop (c.delay_in z d s) (λ (ms : ℕ). pick (ltb most_now clock) (refused 14 0 0) (given (clock + seconds ms))) (larger_delay d)

    -- the site's; and the template's, where the site's is given
    pub larger_site : (ty : ℕ) (t : List ℕ) → Turned 0 2 (framing s).stop (c.supplied_in z ty s t)
    unfolding c.supplied_in
    larger_site ty t = turned_site 0 2 (framing s).stop (c.last_in z ty 0 s) (c.last_in z ty 1 t) (larger_last ty 0)

    pub larger_template : (ty : ℕ) (d : List ℕ) (es : List Entry) → c.framed_in z 0 d ≡ given es → Turned 1 2 (framing s).stop (c.supplied_in z ty d s)
    unfolding c.supplied_in c.last_in
    larger_template ty d es e =
        rw e (turned_template 1 2 (framing s).stop (last_of ty absent es) (c.last_in z ty 1 s) (last_answered ty absent es tt) (larger_last ty 1))

    -- ---- listings
    pub larger_listed : Turned 0 2 (framing s).stop (c.listed_in z s)
    unfolding c.listed_in
    larger_listed = turned_on 0 2 (framing s).stop listing (c.framed_in z 0 s) (larger_framed 0)

    pub larger_nested : Turned 0 2 (framing s).stop (c.nested_in z s)
    unfolding c.nested_in
    larger_nested = turned_on 0 2 (framing s).stop (λ (es : List Entry). lines 0 (payload es)) (c.framed_in z 0 s) (larger_framed 0)

    -- ---- edits and runs
    pub larger_rewritten : (k : Choice) → Turned 0 2 (framing s).stop (c.rewritten_in z k s)
    unfolding c.rewritten_in
    larger_rewritten k = turned_on 0 2 (framing s).stop (λ (es : List Entry). encode_all (kept k (contents es))) (c.framed_in z 0 s) (larger_framed 0)

    larger_changed : (f : List Content → List Content) (v : List ℕ) → Turned 0 2 (framing s).stop (c.changed_in z f v s)
    larger_changed f v =
        turned_then 0 2 (framing s).stop (c.framed_in z 0 s) (λ (es : List Entry). pick (ltb most_value (length v)) (refused 13 0 0) (c.sized_in z (f (contents es)))) (larger_framed 0)

    pub larger_with_set : (t : ℕ) (v : List ℕ) → Turned 0 2 (framing s).stop (c.with_set_in z t v s)
    unfolding c.with_set_in
    larger_with_set t v = larger_changed (set_last t v) v

    pub larger_with_pushed : (t : ℕ) (v : List ℕ) → Turned 0 2 (framing s).stop (c.with_pushed_in z t v s)
    unfolding c.with_pushed_in
    larger_with_pushed t v = larger_changed (pushed t v) v

    pub larger_hex_of : Turned 0 2 (framing s).stop (c.hex_of_in z s)
    unfolding c.hex_of_in
    larger_hex_of = turned_on 0 2 (framing s).stop hex_text (c.rewritten_in z All s) (larger_rewritten All)

    pub larger_ran : (l : List ℕ) → Turned 0 2 (framing s).stop (c.ran_in z s l)
    unfolding c.ran_in
    larger_ran l =
        turned_then 0 2 (framing s).stop (c.framed_in z 0 s)
        (λ (es : List Entry). then_do (c.operations_in z 1 l) (λ (os : List OpAt). c.sized_in z (run_all (bare os) (contents es)))) (larger_framed 0)

    -- ---- payloads
    pub larger_checked : Turned 0 2 (framing s).stop (c.checked_in z s)
    unfolding c.checked_in
    larger_checked = turned_then 0 2 (framing s).stop (c.framed_in z 0 s) (c.decoding_in z) (larger_framed 0)

    pub larger_decode : Turned 0 2 (framing s).stop (c.decode_in z s)
    unfolding c.decode_in
    larger_decode = turned_on 0 2 (framing s).stop diag (c.checked_in z s) larger_checked

    pub larger_answered : (p h b : ℕ) → Turned 0 2 (framing s).stop (c.answered_in z s p h b)
    unfolding c.answered_in
    larger_answered p h b = turned_then 0 2 (framing s).stop (c.decode_in z s) (λ (d : Diag). roomed d p h b) larger_decode

    pub larger_child_list : (k : ℕ) → Turned 0 2 (framing s).stop (c.child_list_in z k s)
    unfolding c.child_list_in
    larger_child_list k = turned_then 0 2 (framing s).stop (c.checked_in z s) (λ (es : List Entry). nth (address_lists es) k) larger_checked

    larger_paired : Turned 0 2 (framing s).stop (c.paired_in z s)
    unfolding c.paired_in
    larger_paired = turned_on 0 2 (framing s).stop pairings (c.checked_in z s) larger_checked

    pub larger_codes : Turned 0 2 (framing s).stop (c.codes_in z s)
    unfolding c.codes_in
    larger_codes = turned_on 0 2 (framing s).stop (λ (ps : List Pairing). map code_of ps) (c.paired_in z s) larger_paired

    pub larger_row_pairing : (k : ℕ) → Turned 0 2 (framing s).stop (c.row_pairing_in z k s)
    unfolding c.row_pairing_in
    larger_row_pairing k = turned_then 0 2 (framing s).stop (c.paired_in z s) (λ (ps : List Pairing). nth ps k) larger_paired

  -- ---- change lists; a second input is reached where the first one is given
  module _ (l : List ℕ) (h : LargerList l) where
    larger_operations : (i : ℕ) → Turned i 9 (ops_of l).stop (c.operations_in z i l)
    larger_operations i = operations_larger z.bytes z.entries i l h

    pub larger_folded : Turned 0 9 (ops_of l).stop (c.folded_in z l)
    unfolding c.folded_in
    larger_folded = turned_then 0 9 (ops_of l).stop (c.operations_in z 0 l) (λ (os : List OpAt). c.sized_ops_in z (fold_all (bare os))) (larger_operations 0)

    pub larger_first : (m : List ℕ) → Turned 0 9 (ops_of l).stop (c.folded_two_in z l m)
    unfolding c.folded_two_in
    larger_first m =
        turned_then 0 9 (ops_of l).stop (c.operations_in z 0 l)
        (λ (os : List OpAt). then_do (c.operations_in z 1 m) (λ (ps : List OpAt). c.sized_ops_in z (fold_all (bare os ++ bare ps)))) (larger_operations 0)

    pub larger_second : (m : List ℕ) (os : List OpAt) → c.operations_in z 0 m ≡ given os → Turned 1 9 (ops_of l).stop (c.folded_two_in z m l)
    unfolding c.folded_two_in
    larger_second m os e =
        rw e (turned_then 1 9 (ops_of l).stop (c.operations_in z 1 l) (λ (ps : List OpAt). c.sized_ops_in z (fold_all (bare os ++ bare ps))) (larger_operations 1))

    pub larger_ran_list : (d : List ℕ) (es : List Entry) → c.framed_in z 0 d ≡ given es → Turned 1 9 (ops_of l).stop (c.ran_in z d l)
    unfolding c.ran_in
    larger_ran_list d es e =
        rw e (turned_then 1 9 (ops_of l).stop (c.operations_in z 1 l) (λ (os : List OpAt). c.sized_in z (run_all (bare os) (contents es))) (larger_operations 1))

  -- ---- hex text: by its digits, and by the dataset or payload that it says
  module _ (x : List ℕ) (h : z.digits < length x) where
    pub larger_from_hex : c.from_hex_in z x ≡ refused 1 0 0
    unfolding c.from_hex_in
    larger_from_hex = rw (decoded_larger z.digits x h)

    pub larger_hex_by : (f : List ℕ → Answer (List ℕ)) → c.hex_by_in z f x ≡ refused 1 0 0
    unfolding c.hex_by_in
    larger_hex_by f = rw (decoded_larger z.digits x h)

  module _ (x s : List ℕ) (e : c.decoded_in z x ≡ given s) (h : Larger s) where
    pub larger_said : Turned 0 2 (framing s).stop (c.from_hex_in z x)
    unfolding c.from_hex_in c.well_framed_in
    larger_said = rw e (turned_on 0 2 (framing s).stop (λ (es : List Entry). s) (c.framed_in z 0 s) (larger_framed s h 0))

    pub larger_said_listed : Turned 0 2 (framing s).stop (c.hex_by_in z (c.listed_in z) x)
    unfolding c.hex_by_in
    larger_said_listed = rw e (larger_listed s h)

    pub larger_said_nested : Turned 0 2 (framing s).stop (c.hex_by_in z (c.nested_in z) x)
    unfolding c.hex_by_in
    larger_said_nested = rw e (larger_nested s h)

  -- ---- bare values
  module _ (v : List ℕ) (h : z.bytes < length v) where
    larger_within : {A : Type 0} (a : Answer A) → c.within z v a ≡ refused 1 0 0
    larger_within a = rw (lt-ltb z.bytes (length v) h)

    -- no value of a fixed length has more bytes than the sizes
    pub larger_ruled : (k place : ℕ) → k ≤ z.bytes → c.ruled_in z k place v ≡ refused 1 0 0
    unfolding c.ruled_in c.wrong_length_in
    larger_ruled k place f = rw (ne_eqb (length v) k (λ e. omega arith), lt-ltb z.bytes (length v) h)

    pub larger_sized_value : c.sized_value_in z v ≡ refused 1 0 0
    unfolding c.sized_value_in
    larger_sized_value = larger_within (given v)

    pub larger_name : (place : ℕ) → c.name_in z place v ≡ refused 1 0 0
    unfolding c.name_in
    larger_name place = rw larger_sized_value

    pub larger_mask : (place : ℕ) → c.mask_in z place v ≡ refused 1 0 0
    unfolding c.mask_in
    larger_mask place = larger_within _

    pub larger_network : (place : ℕ) → c.network_in z place v ≡ refused 1 0 0
    unfolding c.network_in
    larger_network place = larger_within _

    pub larger_value : (ty place : ℕ) → c.value_in z ty place v ≡ refused 1 0 0
    unfolding c.value_in
    larger_value ty place = larger_within _

  -- ---- results
  pub larger_result : (cs : List Content) → (z.bytes < length (encode_all cs)) ⊎ (z.entries < length cs) → c.sized_in z cs ≡ refused 10 0 0
  larger_result cs h = tested_larger z.bytes z.entries (length (encode_all cs)) (length cs) (encode_all cs) h

  pub larger_fold : (os : List Op) → (z.bytes < length (encode_ops os)) ⊎ (z.entries < length os) → c.sized_ops_in z os ≡ refused 10 0 0
  larger_fold os h = tested_larger z.bytes z.entries (length (encode_ops os)) (length os) (encode_ops os) h
