-- A list of the tree, row by row: what the theorems of proofs/Order.antt speak of.
-- Assumes nothing.
use Rattle.std.specs.Prelude.{ℕ, suc, ◌≡◌, Bool, true, false, List, [], ◌∷◌, ◌++◌, length, take, drop}
use Rattle.refusal.specs.Answer.{pick}
use Rattle.tlv.specs.Entries.{Entry}
use Rattle.network_framing.specs.Tlvs.{Opening, broken, opening, Piece, Stop, clean, short}
use Rattle.network_framing.specs.Frame.{walk_in}
use Rattle.nested_listing.specs.Tree.{Items, none, cut, item, item_line, cut_line, lines}
use Rattle.nested_listing.specs.Nested.{first_holds}

-- an item of a list: its type, its length, and the list that it holds
pub record Row : Type 0 where
  pub ty : ℕ
  pub len : ℕ
  pub held : Items

abbrev pub row : (ty len : ℕ) → Items → Row
row t n x = record { ty = t; len = n; held = x }

-- the items of a list, and whether it cannot be framed after them
unfoldable pub rows : Items → List Row
rows none = []
rows cut = []
rows (item t n held after) = row t n held ∷ rows after

unfoldable pub is_cut : Items → Bool
is_cut none = false
is_cut cut = true
is_cut (item t n held after) = is_cut after

-- the text of rows: each its own line, and directly after it the lines of what it holds
unfoldable pub row_lines : (level : ℕ) → List Row → List ℕ
row_lines l [] = []
row_lines l (r ∷ rs) = item_line l r.ty r.len ++ lines (suc l) r.held ++ row_lines l rs

unfoldable pub cut_after : (level : ℕ) → Bool → List ℕ
cut_after l isShort = pick isShort (cut_line l) []

-- the row of an entry; and of a TLV that was found in v, by what an item of a type and a value holds
abbrev pub entry_row : Entry → Row
entry_row e = row e.ty (length e.value) (first_holds e.ty e.value)

abbrev pub tlv_row : (holds : ℕ → List ℕ → Items) → (v : List ℕ) → Piece → Row
tlv_row holds v e = row e.ty e.len (holds e.ty (take e.len (drop e.start v)))

-- whether TLVs end at one that is cut short: those of v; and those of a prefix, or else its own bytes
unfoldable pub stops_short : Stop → Bool
stops_short clean = false
stops_short short = true

abbrev pub tlvs_short : List ℕ → Bool
tlvs_short v = stops_short (walk_in v 0 (length v)).stop

unfoldable pub prefix_short : Opening → Bool
prefix_short broken = true
prefix_short (opening d b bytes rest) = tlvs_short rest

-- an entry in which there is nothing to open
abbrev pub Closed : Entry → Type 0
Closed e = first_holds e.ty e.value ≡ none
