-- A query by an index, of any bytes and of any index whatever: it looks at the index's four bytes of the type and at the one entry that they name.
-- "a query by index equals the query by walk" where the index is the dataset's: `by_index`, proofs/Meaning.antt. 17 "for a stored index that is
-- misframed or isn't the one the dataset gives; after all faults of the dataset" is `loaded`; here it is told where it shows without a walk.
-- Assumes nothing.
use Rattle.std.specs.Prelude.{Bool, false, ℕ, ◌+◌, ◌*◌, List, [], length, get_or, take, drop, eqb, ltb}
use Rattle.refusal.specs.Sizes.{most_bytes}
use Rattle.refusal.specs.Answer.{pick, Answer, given, absent, refused}
use Rattle.tlv.specs.Entries.{First, none, cut, one, first}
use Rattle.tlv_last.specs.Last.{spot_at}
use Rattle.tlv_last.specs.declared.Spot.{Spot}
use Rattle.dataset_index.specs.Index.{index_size}

-- the number that two bytes from k on spell
abbrev pub two_at : List ℕ → (k : ℕ) → ℕ
two_at x k = get_or x k 0 * 256 + get_or x (k + 1) 0

-- "its count and its place", after the mark and those of the types before it
abbrev pub count_in : List ℕ → (ty : ℕ) → ℕ
count_in x ty = two_at x (2 + 4 * ty)

abbrev pub place_in : List ℕ → (ty : ℕ) → ℕ
place_in x ty = two_at x (2 + 4 * ty + 2)

-- "it opens with the mark 49 58", and has the length of an index
unfoldable pub is_framed : List ℕ → Bool
is_framed x = pick (eqb (length x) index_size) (pick (eqb (get_or x 0 0) 0x49) (eqb (get_or x 1 0) 0x58) false) false

-- what stands first at a place, where it is an entry of the type; else the index cannot be the dataset's
unfoldable pub spot_in : (ty place : ℕ) → First → Answer Spot
spot_in ty p (one t h v rest) = pick (eqb t ty) (given (spot_at p (p + h) (length v))) (refused 17 0 1)
spot_in ty p cut = refused 17 0 1
spot_in ty p none = refused 17 0 1

-- where the entry lies that the index names for a type. 1 of the dataset, then 17; nothing else of the dataset is looked at
unfoldable pub by_index : (ty : ℕ) → List ℕ → (index : List ℕ) → Answer Spot
by_index ty s x =
    pick (ltb most_bytes (length s)) (refused 1 0 0)
    (pick (is_framed x)
    (pick (eqb (count_in x ty) 0) absent (spot_in ty (place_in x ty) (first (drop (place_in x ty) s))))
    (refused 17 0 1))

-- the bytes of s that are the value of an entry that is found, and no bytes where none is
abbrev pub part_or : List ℕ → Answer Spot → List ℕ
part_or s (given e) = take e.len (drop e.start s)
part_or s absent = []
part_or s (refused n p i) = []

unfoldable pub value_by_index : (ty : ℕ) → List ℕ → (index : List ℕ) → List ℕ
value_by_index ty s x = part_or s (by_index ty s x)
