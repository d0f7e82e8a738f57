-- The nested listing of hex text, and what the program `nested` prints.
-- Assumes nothing.
use Rattle.std.specs.Prelude.{ℕ, ◌*◌, List}
use Rattle.refusal.specs.Sizes.{most_bytes}
use Rattle.refusal.specs.Answer.{Answer}
use Rattle.listing.specs.Listing.{hex_by, report_by}
use Rattle.nested_listing.specs.Nested.{nested}

-- the nested listing of a payload in hex text: 1, 7, 8, 2, 3
abbrev pub nested_hex : List ℕ → Answer (List ℕ)
nested_hex x = hex_by nested x

-- what the program `nested` prints for its standard input, as `list` does
abbrev pub nested_report : List ℕ → List ℕ
nested_report x = report_by nested x

-- what it prints is never longer (`report_short`, proofs/Bounds.antt)
abbrev pub nested_report_bytes : ℕ
nested_report_bytes = 7 * most_bytes
