-- Pairing on what was written is pairing on the record that went in: `pairs_back`. It asks of a payload no more than its reading says: `pairs_read`.
-- Assumes nothing.
use mathlib.Core.Path.{◌≡◌, refl, ap, ◌∙◌}
use mathlib.Core.Bool.{true}
use mathlib.Core.List.{List, [], ◌∷◌, map}
use Prim.Native.Nat.{ℕ}
use Rattle.refusal.specs.Answer.{Answer, given, absent, refused, on_given}
use Rattle.tlv.specs.Entries.{Entry}
use Rattle.tlv_last.specs.Last.{value_or}
use Rattle.tlv_writing.specs.Encode.{sized}
use Rattle.diag_rows.specs.Rows.{listed, child_rows}
use Rattle.diag_rows.specs.declared.ChildTableEntry.{ChildTableEntry}
use Rattle.diag_entries.specs.Parts.{last, said}
use Rattle.diag_entries.specs.Checked.{checked}
use Rattle.diag_entries.specs.Lists.{AddressList, address_lists}
use Rattle.diag.specs.Diag.{diag}
use Rattle.pair_rule.specs.Pairing.{pairing}
use Rattle.pair_rule.specs.Codes.{code_of}
use Rattle.pair_rule.specs.declared.Pairing.{Pairing}
use Rattle.pairing.specs.Payload.{own_mac, row_ids, list_rlocs, pairings, paired, codes}
use Rattle.value_writing.specs.Encode.{ListValue}
use Rattle.record_writing.specs.Values.{Values, entries_of}
use Rattle.record_writing.specs.Typed.{Typed}
use Rattle.record_writing.specs.Fits.{tables_fit, values_fit}
use Rattle.record_writing.specs.Reading.{Listed, Reading, saying, unplaced, reading_of, reading, or_absent, says}
use Rattle.record_writing.specs.Reading as R
use Rattle.record_writing.specs.Pairs.{rows_or, table_ids, rlocs_of_lists, pairings_of}
use Rattle.record_writing.proofs.Round.{read_back}

-- the pairing of what was read
abbrev listed_rlocs : List Listed → List ℕ
listed_rlocs ls = map (λ (l : Listed). l.rloc16) ls

unfoldable pub pairings_in : Reading → List Pairing
pairings_in r = map (pairing r.mac_addr (table_ids (rows_or r.child_table)) (listed_rlocs r.child_lists)) (table_ids (rows_or r.child_table))

rows_read : (a : Answer Entry) → child_rows (value_or a) ≡ rows_or (saying (on_given (said child_rows) a))
unfolding child_rows listed
rows_read (given e) = refl
rows_read absent = refl
rows_read (refused n p i) = refl

lists_read : (ls : List AddressList) → map (λ (l : AddressList). l.rloc16) ls ≡ listed_rlocs (map unplaced ls)
lists_read [] = refl
lists_read (l ∷ ls) = ap (λ (x : List ℕ). l.rloc16 ∷ x) (lists_read ls)

entries_pair : (es : List Entry) → pairings es ≡ pairings_in (reading_of (diag es) (address_lists es))
unfolding pairings own_mac row_ids list_rlocs pairings_in reading_of diag
entries_pair es = rw (rows_read (last 16 es), lists_read (address_lists es))

pub pairs_read : (s : List ℕ) → paired s ≡ on_given pairings_in (reading s)
unfolding paired reading
pairs_read s = by_answer (checked s)
  where
    by_answer : (a : Answer (List Entry)) → on_given pairings a ≡ on_given pairings_in (on_given (λ (es : List Entry). reading_of (diag es) (address_lists es)) a)
    by_answer (given es) = ap given (entries_pair es)
    by_answer absent = refl
    by_answer (refused n p i) = refl

rows_said : (a : Answer (List ChildTableEntry)) → rows_or (or_absent a) ≡ rows_or a
rows_said (given rows) = refl
rows_said absent = refl
rows_said (refused n p i) = refl

lists_said : (ls : List ListValue) → listed_rlocs (map R.listed ls) ≡ rlocs_of_lists ls
lists_said [] = refl
lists_said (l ∷ ls) = ap (λ (x : List ℕ). l.rloc16 ∷ x) (lists_said ls)

-- no MAC Address is none
own_said : (own : Answer ℕ) (rows lists ids : List ℕ) → map (pairing (or_absent own) rows lists) ids ≡ map (pairing own rows lists) ids
unfolding pairing
own_said (given mac) rows lists ids = refl
own_said absent rows lists ids = refl
own_said (refused n p i) rows lists ids = refl

said_pairs : (v : Values) → pairings_in (says v) ≡ pairings_of v
unfolding pairings_in pairings_of says
said_pairs v = rw (rows_said v.child_table, lists_said v.child_lists) (own_said v.mac_addr (table_ids (rows_or v.child_table)) (rlocs_of_lists v.child_lists) (table_ids (rows_or v.child_table)))

module _ (v : Values) (bs : List ℕ) (t : Typed v) (small : tables_fit v ≡ true) (fits : values_fit v ≡ true) (e : sized (entries_of v) ≡ given bs) where
  -- what was written pairs as what went in
  pub pairs_back : paired bs ≡ given (pairings_of v)
  pairs_back = pairs_read bs ∙ ap (on_given pairings_in) (read_back v bs t small fits e) ∙ ap given (said_pairs v)

  -- and in numbers
  pub codes_back : codes bs ≡ given (map code_of (pairings_of v))
  unfolding codes
  codes_back = ap (on_given (λ (ps : List Pairing). map code_of ps)) pairs_back
