-- The flat listing of a dataset or payload, and what a listing program prints. Document 01: "prints `entries` and their count, then a line
-- for each with type and length, in decimal, one space between; a refusal is one line `refused`, number, place".
-- Assumes nothing.
use Rattle.std.specs.Prelude.{ℕ, ◌+◌, ◌-◌, ◌*◌, List, [], ◌∷◌, ◌++◌, length, take, get_or, eqb}
use Rattle.refusal.specs.Sizes.{most_entries, most_digits}
use Rattle.refusal.specs.Answer.{pick, Answer, given, absent, refused, then_do, on_given}
use Rattle.refusal.specs.Output.{Output, output, emit}
use Rattle.tlv.specs.Entries.{Entry}
use Rattle.tlv.specs.Limits.{framed}
use Rattle.base16.specs.Base16.{decoded}
use Rattle.text_writing.specs.Decimal.{decimal}

-- two numbers, one space between, and a newline
unfoldable pub pair_line : ℕ → ℕ → List ℕ
pair_line a b = decimal a ++ (32 ∷ []) ++ decimal b ++ (10 ∷ [])

-- a line for each entry, with its type and its length
unfoldable pub entry_lines : List Entry → List ℕ
entry_lines [] = []
entry_lines (e ∷ es) = pair_line e.ty (length e.value) ++ entry_lines es

-- "entries " and their count
unfoldable pub first_line : (count : ℕ) → List ℕ
first_line n = (101 ∷ 110 ∷ 116 ∷ 114 ∷ 105 ∷ 101 ∷ 115 ∷ 32 ∷ []) ++ decimal n ++ (10 ∷ [])

-- then their lines
unfoldable pub listing : List Entry → List ℕ
listing es = first_line (length es) ++ entry_lines es

-- the listing of a dataset's bytes: 1, 2, 3
unfoldable pub listed : List ℕ → Answer (List ℕ)
listed s = on_given listing (framed 0 s)

-- a listing of hex text, by how its bytes are listed: 1, 7, 8, then the listing's own, whose places "count decoded bytes"
unfoldable pub hex_by : (List ℕ → Answer (List ℕ)) → List ℕ → Answer (List ℕ)
hex_by lists x = then_do (decoded x) lists

-- the flat one: 1, 7, 8, 2, 3
abbrev pub listed_hex : List ℕ → Answer (List ℕ)
listed_hex x = hex_by listed x

-- "dropping one final newline"
unfoldable pub line_of : List ℕ → List ℕ
line_of x = pick (eqb (get_or x (length x - 1) 0) 10) (take (length x - 1) x) x

-- "one line `refused`, number, place"
unfoldable pub refused_line : (number place : ℕ) → List ℕ
refused_line n p = (114 ∷ 101 ∷ 102 ∷ 117 ∷ 115 ∷ 101 ∷ 100 ∷ 32 ∷ []) ++ pair_line n p

-- what a program leaves of a listing's answer and the output with it: what was given stands, and so does 11, which is about the listing; of any other refusal
-- the line is written
unfoldable pub telling : Answer ℕ → List ℕ → Output
telling (given n) out = output (given n) out
telling absent out = output absent out
telling (refused n p i) out = pick (eqb n 11) (output (refused n p i) out) (emit (given (refused_line n p)) out)

-- in all: the text itself, or that line
unfoldable pub told : Answer (List ℕ) → List ℕ
told (given t) = t
told absent = []
told (refused n p i) = refused_line n p

-- what a listing program prints for its standard input, by how it lists bytes
unfoldable pub report_by : (List ℕ → Answer (List ℕ)) → List ℕ → List ℕ
report_by lists x = told (hex_by lists (line_of x))

-- what the program `list` prints
abbrev pub report : List ℕ → List ℕ
report x = report_by listed x

-- a program reads no more than this: one byte more than the digits and a newline, so that a text that is too long is told apart
-- (`report_reads`, proofs/Reports.antt)
abbrev pub report_reads : ℕ
report_reads = most_digits + 2

-- what `list` prints is never longer (`report_short`, proofs/Bounds.antt)
abbrev pub report_bytes : ℕ
report_bytes = 16 * most_entries
