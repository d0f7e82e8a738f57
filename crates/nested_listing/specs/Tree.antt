-- A tree of items, and its lines: "a list prints its items, and an item that holds a list prints that list" (document 02, request Five).
-- Assumes nothing.
use Rattle.std.specs.Prelude.{ℕ, suc, ◌*◌, List, [], ◌∷◌, ◌++◌, replicate}
use Rattle.listing.specs.Listing.{pair_line}

-- a list from some item on: nothing more; what cannot be framed; or an item by type and length, with the list that it holds and the items after it. An item
-- that holds no list has the empty list there, which prints nothing
pub data Items : Type 0 where
  none : Items
  cut : Items
  item : (ty len : ℕ) → (held after : Items) → Items

-- "two spaces per level below the first"
unfoldable pub indent : (level : ℕ) → List ℕ
indent l = replicate (2 * l) 32

-- "then type ... and length in decimal"
unfoldable pub item_line : (level ty len : ℕ) → List ℕ
item_line l t n = indent l ++ pair_line t n

-- "`cut` at its own level"
unfoldable pub cut_line : (level : ℕ) → List ℕ
cut_line l = indent l ++ (99 ∷ 117 ∷ 116 ∷ 10 ∷ [])

-- "Every framed item appears once, parents before children, wire order kept"; level 0 is the first
unfoldable pub lines : (level : ℕ) → Items → List ℕ
lines l none = []
lines l cut = cut_line l
lines l (item t n held after) = item_line l t n ++ lines (suc l) held ++ lines l after
