-- The pairing of what a record says: the rule of documents 01 and 02 over its MAC Address, its child table and its address lists.
-- Assumes nothing.
use Rattle.std.specs.Prelude.{ℕ, List, [], map}
use Rattle.refusal.specs.Answer.{Answer, given, absent, refused}
use Rattle.diag_rows.specs.declared.ChildTableEntry.{ChildTableEntry}
use Rattle.pair_rule.specs.Pairing.{pairing}
use Rattle.pair_rule.specs.declared.Pairing.{Pairing}
use Rattle.value_writing.specs.Encode.{ListValue}
use Rattle.record_writing.specs.Values.{Values}

-- "no child table, no answers"
abbrev pub rows_or : Answer (List ChildTableEntry) → List ChildTableEntry
rows_or (given rows) = rows
rows_or absent = []
rows_or (refused n p i) = []

abbrev pub table_ids : List ChildTableEntry → List ℕ
table_ids rows = map (λ (r : ChildTableEntry). r.child_id) rows

abbrev pub rlocs_of_lists : List ListValue → List ℕ
rlocs_of_lists ls = map (λ (l : ListValue). l.rloc16) ls

-- what is said of each row of the table
unfoldable pub pairings_of : Values → List Pairing
pairings_of v = map (pairing v.mac_addr (table_ids (rows_or v.child_table)) (rlocs_of_lists v.child_lists)) (table_ids (rows_or v.child_table))
