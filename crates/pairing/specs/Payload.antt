-- Pairing within one payload. Document 01: "One answer goes out for each row, in row order (no child table, no answers); a pair names the list, from 0."
-- Document 02, Two, has whose lists count (`pair_rule`).
-- Assumes nothing.
use Rattle.std.specs.Prelude.{ℕ, List, map}
use Rattle.refusal.specs.Answer.{Answer, then_do, on_given}
use Rattle.tlv.specs.Entries.{Entry}
use Rattle.wire.specs.Be.{be}
use Rattle.tlv_last.specs.Last.{value_or}
use Rattle.refusal.specs.Numbered.{nth}
use Rattle.diag_rows.specs.Rows.{child_rows}
use Rattle.diag_rows.specs.declared.ChildTableEntry.{ChildTableEntry}
use Rattle.diag_entries.specs.Parts.{last, last_says}
use Rattle.diag_entries.specs.Checked.{checked}
use Rattle.diag_entries.specs.Lists.{AddressList, address_lists}
use Rattle.pair_rule.specs.Pairing.{pairing}
use Rattle.pair_rule.specs.Codes.{code_of}
use Rattle.pair_rule.specs.declared.Pairing.{Pairing}

-- the child IDs of the rows of the last child table (type 16): none where there is no table
unfoldable pub row_ids : List Entry → List ℕ
row_ids es = map (λ (r : ChildTableEntry). r.child_id) (child_rows (value_or (last 16 es)))

-- the RLOC16s of the address lists (type 30), in order
unfoldable pub list_rlocs : List Entry → List ℕ
list_rlocs es = map (λ (l : AddressList). l.rloc16) (address_lists es)

-- "the payload's own MAC Address value" (document 02, Two), the last type 1: absent where there is none
unfoldable pub own_mac : List Entry → Answer ℕ
own_mac es = last_says 1 be es

-- what is said of each row
unfoldable pub pairings : List Entry → List Pairing
pairings es = map (pairing (own_mac es) (row_ids es) (list_rlocs es)) (row_ids es)

-- the same of a payload, refused as its decode is; then in numbers; and of one row, from 0
unfoldable pub paired : List ℕ → Answer (List Pairing)
paired s = on_given pairings (checked s)

unfoldable pub codes : List ℕ → Answer (List ℕ)
codes s = on_given (λ (ps : List Pairing). map code_of ps) (paired s)

unfoldable pub row_pairing : (k : ℕ) → List ℕ → Answer Pairing
row_pairing k s = then_do (paired s) (λ (ps : List Pairing). nth ps k)
