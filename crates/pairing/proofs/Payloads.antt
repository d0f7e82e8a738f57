-- A payload that is not refused: the child IDs that the loops count are those of the definition, and so are the answers.
-- Assumes nothing.
use mathlib.Core.Path.{◌≡◌, refl, sym, ap, ◌∙◌}
use mathlib.Core.Bool.{Bool, true, false}
use mathlib.Core.List.{List, [], ◌∷◌, map, map-map}
use Prim.Native.Nat.{ℕ, ◌*◌, ◌/◌, ◌≤◌, ◌<◌}
use native.Mathlib.Omega.{arith}
use lib.ListN.{length, get_or, length-map}
use lib.Dec.{ltb, eqb}
use borrow.Author.Tests.{eq-eqb, eqb-true, ltb-false}
use Rattle.refusal.specs.Sizes.{most_bytes}
use Rattle.refusal.specs.Answer.{pick, Answer, given, absent, refused, then_do, on_given}
use Rattle.refusal.specs.Every.{Every}
use Rattle.laws.proofs.Tests.{by_test}
use Rattle.tlv.specs.Entries.{Entry, framing}
use Rattle.tlv.specs.Limits.{framed, count}
use Rattle.tlv.proofs.Tally.{Only, only, counted_short}
use Rattle.tlv_last.specs.Last.{last_of, last_entry, value_or, last_value}
use Rattle.wire.specs.Be.{be}
use Rattle.diag_rules.specs.Rule.{keeps_rule, value_of}
use Rattle.refusal.specs.Numbered.{nth}
use Rattle.diag_rows.specs.Rows.{child_at, child_rows, address_list_of}
use Rattle.diag_rows.specs.declared.ChildTableEntry.{ChildTableEntry}
use Rattle.diag_entries.specs.Parts.{last, all_of}
use Rattle.diag_entries.specs.Checked.{decoding, checked}
use Rattle.diag_entries.specs.Lists.{address_lists}
use Rattle.diag_entries.proofs.Checks.{Decodes, entry_other, checked_given, checked_refused}
use Rattle.pair_rule.specs.Pairing.{judged, pairing}
use Rattle.pair_rule.specs.Codes.{code_of}
use Rattle.pairing.specs.Payload.{row_ids, list_rlocs, own_mac, pairings, paired, codes, row_pairing}
use Rattle.pairing.specs.Loops.{or_zero, own_in, unclear_without, row_id_at, rows_of, list_rloc_of, lists_of, keys_of, Counts, Places, codes_by}
use Rattle.pair_rule.specs.declared.Pairing.{Pairing}
use Rattle.pairing.proofs.Rowed.{listed_map, listed_same, every_listed, map_same, nth_in, nth_out, nth_map}
use Rattle.pairing.proofs.Tallies.{judged_is}
use Rattle.pairing.proofs.Ids.{row_of, row_id, row_id_low, rows_length}

-- ---- the place of the entry is nothing to a value that keeps its rule
module _ (ty p q : ℕ) (v : List ℕ) where
  kept_anywhere : value_of ty p v ≡ given v → value_of ty q v ≡ given v
  unfolding value_of
  kept_anywhere = by_size (ltb most_bytes (length v)) (keeps_rule ty v)
    where
      by_size : (b k : Bool) → pick b (refused 1 0 0) (pick k (given v) (refused 4 p 0)) ≡ given v → pick b (refused 1 0 0) (pick k (given v) (refused 4 q 0)) ≡ given v
      by_size true k e = e
      by_size false true e = e
      by_size false false e = absurd (let z : ◌≡◌ {A = ℕ} 0 1 = cc in omega arith)

-- ---- the rows of a table that keeps its rule
rows_are : (v : List ℕ) → value_of 16 0 v ≡ given v → rows_of v ≡ map row_id (child_rows v)
unfolding rows_of row_id_at child_rows
rows_are v h =
    let n = length v / 3 in
    listed_same (row_id_at v) (λ (k : ℕ). row_id (child_at v (k * 3))) n
    (λ k l. rw h (rw (nth_in (λ (j : ℕ). child_at v (j * 3)) n k l)))
    ∙ sym (listed_map row_id (λ (k : ℕ). child_at v (k * 3)) n)

-- an entry that decodes, of a type that is not Network Data's
own_kept : (ty : ℕ) → (ty ≡ 7 → ⊥) → (e : Entry) → e.ty ≡ ty → Decodes e → value_of ty 0 e.value ≡ given e.value
own_kept ty other e same d =
    kept_anywhere ty e.place 0 e.value (rw same at (sym (entry_other e.ty e.place e.value (λ z. other (sym same ∙ z))) ∙ d))

-- the last of a type, where every entry decodes
last_kept : (ty : ℕ) → (ty ≡ 7 → ⊥) → (best : Answer Entry) (es : List Entry) → value_of ty 0 (value_or best) ≡ given (value_or best) → Every Decodes es
    → value_of ty 0 (value_or (last_of ty best es)) ≡ given (value_or (last_of ty best es))
unfolding last_of
last_kept ty other best [] b d = b
last_kept ty other best (e ∷ es) b d =
    by_test (eqb e.ty ty)
    (λ t. rw t (last_kept ty other (given e) es (own_kept ty other e (eqb-true _ _ t) d.0) d.1))
    (λ t. rw t (last_kept ty other best es b d.1))

-- ---- the lists, where every entry decodes
lists_are : (es : List Entry) → Every Decodes es → lists_of es ≡ list_rlocs es
unfolding lists_of list_rlocs address_lists all_of list_rloc_of
lists_are [] d = refl
lists_are (e ∷ es) d =
    by_test (eqb e.ty 30)
    (λ t. let own = own_kept 30 (λ z. omega arith) e (eqb-true _ _ t) d.0 in
    rw t (rw own (ap (λ (l : List ℕ). (address_list_of e.value).rloc16 ∷ l) (lists_are es d.1))))
    (λ t. rw t (lists_are es d.1))

-- ---- the MAC Address, where every entry decodes
two_bytes : (v : List ℕ) → value_of 1 0 v ≡ given v → length v ≡ 2
unfolding value_of keeps_rule
two_bytes v e =
    by_test (ltb most_bytes (length v))
    (λ t. absurd (let large : refused 1 0 0 ≡ given v = rw t at e in let z : ◌≡◌ {A = ℕ} 0 1 = cc in omega arith))
    (λ t. by_test (eqb (length v) 2)
    (λ k. eqb-true _ _ k)
    (λ k. absurd (let broken : refused 4 0 0 ≡ given v = rw (t, k) at e in let z : ◌≡◌ {A = ℕ} 0 1 = cc in omega arith)))

abbrev number_in : Entry → ℕ
number_in e = be e.value

own_number : (e : Entry) → value_of 1 0 e.value ≡ given e.value → own_in e.value ≡ given (number_in e)
unfolding own_in
own_number e h = rw (eq-eqb (length e.value) 2 (two_bytes e.value h))

own_none : own_in [] ≡ absent
unfolding own_in
own_none = refl

own_is : (best : Answer Entry) (es : List Entry) → own_in (value_or best) ≡ on_given number_in best → Every Decodes es
    → own_in (value_or (last_of 1 best es)) ≡ on_given number_in (last_of 1 best es)
unfolding last_of
own_is best [] b d = b
own_is best (e ∷ es) b d =
    by_test (eqb e.ty 1)
    (λ t. rw t (own_is (given e) es (own_number e (own_kept 1 (λ z. omega arith) e (eqb-true _ _ t) d.0)) d.1))
    (λ t. rw t (own_is best es b d.1))

-- ---- every child ID has nine bits
low_by : (v : List ℕ) (k : ℕ) (a : Answer ChildTableEntry) → a ≡ row_of v k → or_zero (on_given row_id a) < 512
low_by v k (given r) e = row_id_low v k r e
low_by v k absent e = omega arith
low_by v k (refused n p i) e = omega arith

pub row_low : (v : List ℕ) (k : ℕ) → row_id_at v k < 512
unfolding row_id_at
row_low v k = low_by v k (row_of v k) refl

rows_low : (v : List ℕ) → Every (λ (x : ℕ). x < 512) (rows_of v)
unfolding rows_of
rows_low v = every_listed _ (row_id_at v) (length v / 3) (row_low v)

-- ---- a payload whose entries all decode
pub framed_by : (es ys : List Entry) (a : Answer (List Entry)) → Only 0 es a → then_do a decoding ≡ given ys → a ≡ given es
framed_by es ys (given xs) o e = ap given o
framed_by es ys absent o e = absurd o
framed_by es ys (refused n p i) o e = absurd (let z : ◌≡◌ {A = ℕ} 0 1 = cc in omega arith)

short_by : (v : List ℕ) → value_of 16 0 v ≡ given v → length v ≤ most_bytes
unfolding value_of
short_by v e =
    by_test (ltb most_bytes (length v))
    (λ t. absurd (let large : refused 1 0 0 ≡ given v = rw t at e in let z : ◌≡◌ {A = ℕ} 0 1 = cc in omega arith))
    (λ t. ltb-false _ _ t)

-- ---- what `pair` and `pair_row` learn of `check_values`: a refusal is their own answer,
module _ (s : List ℕ) (n p i : ℕ) (told : refused n p i ≡ on_given length (checked s)) where
  pub codes_refused : refused n p i ≡ codes s
  unfolding codes paired
  codes_refused = rw (checked_refused s n p i told)

  pub row_refused : (k : ℕ) → refused n p i ≡ row_pairing k s
  unfolding row_pairing paired
  row_refused k = rw (checked_refused s n p i told)

-- or every entry decodes; v is the last child table, as `last_value` hands it out
module _ (s : List ℕ) (n : ℕ) (told : given n ≡ on_given length (checked s)) where
  abbrev es : List Entry
  es = (framing s).entries

  is : checked s ≡ given es
  is = (checked_given s n told).0

  all : Every Decodes es
  all = (checked_given s n told).1

  framed_is : framed 0 s ≡ given es
  unfolding checked
  framed_is = framed_by es es (framed 0 s) (only 0 s) is

  pub short_payload : length s ≤ most_bytes
  unfolding count
  short_payload = counted_short 0 s (length es) (sym (ap (on_given length) framed_is))

  last_is : (ty : ℕ) → last_value ty s ≡ value_or (last ty es)
  unfolding last_value last_entry
  last_is ty = rw framed_is

  module _ (v : List ℕ) (table : v ≡ last_value 16 s) where
    table_is : v ≡ value_or (last 16 es)
    table_is = table ∙ last_is 16

    table_kept : value_of 16 0 v ≡ given v
    unfolding value_of keeps_rule
    table_kept = rw table_is (last_kept 16 (λ z. omega arith) absent es refl all)

    pub short_table : length v ≤ most_bytes
    short_table = short_by v table_kept

    table_rows : rows_of v ≡ row_ids es
    unfolding row_ids
    table_rows = rows_are v table_kept ∙ ap (λ (w : List ℕ). map row_id (child_rows w)) table_is

    answers_are : paired s ≡ given (map (pairing (own_mac es) (rows_of v) (lists_of es)) (rows_of v))
    unfolding paired pairings
    answers_are = rw (is, table_rows, lists_are es all)

    -- as many numbers as rows
    pub codes_given : codes s ≡ given (map code_of (map (pairing (own_mac es) (rows_of v) (lists_of es)) (rows_of v)))
    unfolding codes
    codes_given = rw answers_are

    pub codes_many : length (map code_of (map (pairing (own_mac es) (rows_of v) (lists_of es)) (rows_of v))) ≡ length v / 3
    codes_many = length-map (map (pairing (own_mac es) (rows_of v) (lists_of es)) (rows_of v)) code_of ∙ length-map (rows_of v) _ ∙ rows_length v

    nth_row : (k : ℕ) → k < length v / 3 → nth (rows_of v) k ≡ given (row_id_at v k)
    unfolding rows_of
    nth_row k h = nth_in (row_id_at v) (length v / 3) k h

    pub row_absent : (k : ℕ) → length v / 3 ≤ k → absent ≡ row_pairing k s
    unfolding row_pairing rows_of
    row_absent k h = rw answers_are (sym (nth_map _ (rows_of v) k ∙ ap (on_given _) (nth_out (row_id_at v) (length v / 3) k h)))

    -- by the tables
    module _ (own : Answer ℕ) (mac : own ≡ own_in (last_value 1 s)) where
      own_mac_lem : own ≡ own_mac es
      unfolding own_mac
      own_mac_lem = mac ∙ ap own_in (last_is 1) ∙ own_is absent es own_none all

      module _ (rows count place : List ℕ) (r : Counts rows (rows_of v)) (c : Counts count (keys_of own (lists_of es))) (q : Places place (keys_of own (lists_of es))) where
        judged_by : (id : ℕ) → id < 512 → unclear_without own (judged (get_or rows id 0) (get_or count id 0) (get_or place id 0)) ≡ pairing (own_mac es) (rows_of v) (lists_of es) id
        judged_by id h =
            rw (r.is id h, c.is id h, q.is id h)
            (judged_is own (rows_of v) (lists_of es) id h ∙ ap (λ (a : Answer ℕ). pairing a (rows_of v) (lists_of es) id) own_mac_lem)

        pub codes_are : codes s ≡ given (codes_by own rows count place (rows_of v))
        unfolding codes_by
        codes_are =
            codes_given
            ∙ ap given (map-map _ _ (rows_of v) ∙ sym (map_same _ _ _ (rows_of v) (λ id h. ap code_of (judged_by id h)) (rows_low v)))

        pub row_answered : (k id : ℕ) → k < length v / 3 → id ≡ row_id_at v k
            → (x : Pairing) → x ≡ unclear_without own (judged (get_or rows id 0) (get_or count id 0) (get_or place id 0)) → given x ≡ row_pairing k s
        unfolding row_pairing
        row_answered k id h e x made =
            rw answers_are
            (ap given (made ∙ judged_by id (rw e (row_low v k))) ∙ sym (nth_map _ (rows_of v) k ∙ ap (on_given _) (nth_row k h ∙ ap given (sym e))))

pub codes_length : (own : Answer ℕ) (rows count place v : List ℕ) → length (codes_by own rows count place (rows_of v)) ≡ length v / 3
unfolding codes_by
codes_length own rows count place v = length-map (rows_of v) _ ∙ rows_length v
