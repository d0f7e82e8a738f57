-- Where the cursors stand: on the rows of one kind, and on the prefixes. No public contract cites it.
-- Assumes nothing.
use Rattle.std.specs.Prelude.{ℕ, ◌+◌, ◌-◌, ◌/◌, ◌≤◌, List, [], ◌∷◌, length, get_or, eqb, ltb}
use Rattle.tables.specs.Tab.{steps}
use Rattle.refusal.specs.Answer.{pick}
use Rattle.network_framing.specs.Tlvs.{Piece, bytes_for}
use Rattle.network_framing.specs.Frame.{walk_in}
use Rattle.network_data.specs.Decode.{route_at, border_at, inner, prefix_at, entry_of}
use Rattle.network_tables.specs.declared.rows.Rows.{Rows}
use Rattle.network_tables.specs.declared.prefixes.Span.{Span}
use Rattle.network_data.specs.declared.HasRouteEntry.{HasRouteEntry}
use Rattle.network_data.specs.declared.BorderRouterEntry.{BorderRouterEntry}
use Rattle.network_data.specs.declared.PrefixEntry.{PrefixEntry}

abbrev pub rows : (at left stop end : ℕ) → Rows
rows a n b e = record { at = a; left = n; stop = b; end = e }

-- c, or d where c has no row
unfoldable pub or_else : Rows → Rows → Rows
or_else c d = pick (eqb c.left 0) d c

-- the first row of a kind among TLVs of a prefix that ends at end
unfoldable pub rows_in : (ty size end : ℕ) → List Piece → Rows
rows_in ty size end [] = rows 0 0 0 0
rows_in ty size end (e ∷ es) =
    pick (eqb e.ty ty) (or_else (rows e.start (e.len / size) (e.start + e.len) end) (rows_in ty size end es)) (rows_in ty size end es)

-- and in the prefixes among TLVs of a value
unfoldable pub rows_out : (ty size : ℕ) → List ℕ → List Piece → Rows
rows_out ty size s [] = rows 0 0 0 0
rows_out ty size s (e ∷ es) =
    pick (eqb e.ty 1) (or_else (rows_in ty size (e.start + e.len) (inner s e.start (e.start + e.len))) (rows_out ty size s es)) (rows_out ty size s es)

abbrev pub first_row : (ty size : ℕ) → List ℕ → Rows
first_row ty size s = rows_out ty size s (walk_in s 0 (length s)).items

-- the next row: in the same TLV, else in the same prefix, else in a later one
unfoldable pub next_row : (ty size : ℕ) → List ℕ → Rows → Rows
next_row ty size s c =
    pick (ltb 1 c.left) (rows (c.at + size) (c.left - 1) c.stop c.end)
    (or_else (rows_in ty size c.end (walk_in s c.stop c.end).items) (rows_out ty size s (walk_in s c.end (length s)).items))

-- a row stands at c
abbrev pub RowHere : ℕ → List ℕ → Rows → Type 0
RowHere size s c = (c.at + size ≤ length s) × (c.end ≤ length s)

-- rows 0 to i stand where the cursor comes by
abbrev pub RowsTo : (ty size : ℕ) → List ℕ → ℕ → Type 0
RowsTo ty size s i = (k : ℕ) → k ≤ i → RowHere size s (steps (next_row ty size s) k (first_row ty size s))

abbrev pub route_of : List ℕ → Rows → HasRouteEntry
route_of s c = route_at s c.at

abbrev pub border_of : List ℕ → Rows → BorderRouterEntry
border_of s c = border_at s c.at

-- where the value of the first prefix stands
unfoldable pub span_of : List Piece → Span
span_of [] = record { start = 0; end = 0 }
span_of (e ∷ es) = pick (eqb e.ty 1) (record { start = e.start; end = e.start + e.len }) (span_of es)

abbrev pub span_at : List ℕ → ℕ → Span
span_at s c = span_of (walk_in s c (length s)).items

-- a whole prefix stands there, and its bytes
abbrev pub Whole : List ℕ → Span → Type 0
Whole s x = (x.start + (2 + bytes_for (get_or s (x.start + 1) 0)) ≤ x.end) × (x.end ≤ length s)

abbrev pub SpanHere : List ℕ → ℕ → Type 0
SpanHere s c = Whole s (span_at s c)

abbrev pub entry_at : List ℕ → ℕ → PrefixEntry
entry_at s c = entry_of (prefix_at s (span_at s c).start (span_at s c).end)

abbrev pub span_end : List ℕ → ℕ → ℕ
span_end s c = (span_at s c).end

-- prefixes 0 to i stand where the cursor comes by
abbrev pub SpansTo : List ℕ → ℕ → Type 0
SpansTo s i = (k : ℕ) → k ≤ i → SpanHere s (steps (span_end s) k 0)
