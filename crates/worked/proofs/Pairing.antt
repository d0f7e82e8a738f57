-- Worked lines of pairing, computed from the definitions.
-- Assumes nothing.
use mathlib.Core.Path.{◌≡◌, refl}
use mathlib.Core.List.{List, [], ◌∷◌, map}
use Prim.Native.Nat.{ℕ}
use Rattle.refusal.specs.Answer.{Answer, given, refused}
use Rattle.refusal.specs.Every.{Every}
use Rattle.refusal.specs.Output.{output, emit}
use Rattle.wire.specs.Be.{be_from, be}
use Rattle.tlv.specs.Entries.{Entry, valued, first, step, frames, framing}
use Rattle.tlv.specs.Limits.{limited, framed}
use Rattle.tlv_last.specs.Last.{last_of}
use Rattle.diag_rules.specs.Rule.{keeps_rule, value_of}
use Rattle.diag_rows.specs.Rows.{listed, child_rows}
use Rattle.diag_entries.specs.Parts.{all_of}
use Rattle.diag_entries.specs.Checked.{entry_value, decoding, checked}
use Rattle.diag_entries.specs.Lists.{address_lists}
use Rattle.pair_rule.specs.Pairing.{occurs, child_of, counts, counting, number_of, judged, pairing}
use Rattle.pair_rule.specs.Codes.{code_none, code_unclear}
use Rattle.pair_rule.specs.declared.Pairing.TheVariants as p
use Rattle.pair_rule.proofs.Parents.{place_of, rule01}
use Rattle.pairing.specs.Payload.{row_ids, list_rlocs, own_mac, pairings, paired, codes}

-- an answer, and what it must be
abbrev pub Line : Type 0
Line = Answer (List ℕ) × Answer (List ℕ)

-- the payload's own MAC Address, of parent 10; a table of one row, child 1; and address lists of child 1 under parents 10 and 11
abbrev pub mac10 : List ℕ → List ℕ
mac10 rest = 0x01 ∷ 0x02 ∷ 0x28 ∷ 0x00 ∷ rest

abbrev pub row : List ℕ → List ℕ
row rest = 0x10 ∷ 0x03 ∷ 0x00 ∷ 0x01 ∷ 0x00 ∷ rest

abbrev pub list10 : List ℕ → List ℕ
list10 rest = 0x1e ∷ 0x02 ∷ 0x28 ∷ 0x01 ∷ rest

abbrev pub list11 : List ℕ → List ℕ
list11 rest = 0x1e ∷ 0x02 ∷ 0x2c ∷ 0x01 ∷ rest

abbrev pub lines : List Line
lines =
    -- a battery level of no bytes, which pairing does not use, is refused as the decode refuses it
    (codes (0x0e ∷ 0x00 ∷ []), refused 4 0 0)
    -- twice in the table and in no list; once in the table and in two lists
    ∷ (codes (mac10 (0x10 ∷ 0x06 ∷ 0x00 ∷ 0x01 ∷ 0x00 ∷ 0x00 ∷ 0x01 ∷ 0x00 ∷ [])), given (code_unclear ∷ code_unclear ∷ []))
    ∷ (codes (mac10 (row (list10 (list10 [])))), given (code_unclear ∷ []))
    -- the last table counts, here one without rows; the lists are numbered from 0, whatever their child IDs
    ∷ (codes (mac10 (row (0x10 ∷ 0x00 ∷ list10 []))), given [])
    ∷ (codes (mac10 (0x1e ∷ 0x02 ∷ 0x28 ∷ 0x02 ∷ row [])), given (code_none ∷ []))
    ∷ (codes (mac10 (0x1e ∷ 0x02 ∷ 0x28 ∷ 0x02 ∷ row (list10 []))), given (1 ∷ []))
    -- bit 9 of an RLOC16 is no part of the child ID, nor of the parent, in a list and in the MAC Address
    ∷ (codes (mac10 (row (0x1e ∷ 0x02 ∷ 0x2a ∷ 0x01 ∷ []))), given (0 ∷ []))
    ∷ (codes (0x01 ∷ 0x02 ∷ 0x2a ∷ 0x00 ∷ list10 (row [])), given (0 ∷ []))
    -- document 02, Two: a list of another parent does not count, and has its number all the same; with it alone the row has none
    ∷ (codes (mac10 (list11 (list10 (row [])))), given (1 ∷ []))
    ∷ (codes (mac10 (list11 (row []))), given (code_none ∷ []))
    -- with no MAC Address every row is unclear, also one that no list has; the last MAC Address counts
    ∷ (codes (row []), given (code_unclear ∷ []))
    ∷ (codes (list10 (row [])), given (code_unclear ∷ []))
    ∷ (codes (mac10 (list11 (row (0x01 ∷ 0x02 ∷ 0x2c ∷ 0x00 ∷ [])))), given (0 ∷ []))
    ∷ []

pub worked : Every (λ (l : Line). l.0 ≡ l.1) lines
unfolding codes paired pairings pairing judged counts counting number_of occurs row_ids list_rlocs own_mac address_lists all_of child_rows listed be be_from last_of checked decoding entry_value
    value_of keeps_rule framed limited framing frames step first valued
worked = (refl, (refl, (refl, (refl, (refl, (refl, (refl, (refl, (refl, (refl, (refl, (refl, (refl, tt)))))))))))))

-- and no room for the one answer
pub no_room : emit (codes (row [])) [] ≡ output (refused 11 0 0) []
unfolding emit codes paired pairings pairing judged counts counting number_of occurs row_ids list_rlocs own_mac address_lists all_of child_rows listed be be_from last_of checked decoding
    entry_value value_of keeps_rule framed limited framing frames step first valued
no_room = refl

-- what document 01's rule said where now there is none: the row and the list of the child that had moved were joined
abbrev moved_child : List Entry
moved_child = (framing (mac10 (list11 (row [])))).entries

pub joined_before : rule01 (row_ids moved_child) (map child_of (list_rlocs moved_child)) 1 ≡ p.Paired 0
unfolding judged occurs place_of row_ids list_rlocs address_lists all_of child_rows listed be be_from last_of framing frames step first valued
joined_before = refl
