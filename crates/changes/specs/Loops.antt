-- What the private loops promise: no public contract cites it.
-- Assumes nothing.
use Rattle.std.specs.Prelude.{◌≡◌, ℕ, zero, suc, ◌+◌, ◌<◌, Bool, true, false, ◌||◌, List, [], ◌∷◌, ◌++◌, length, get_or, ltb, eqb}
use Rattle.refusal.specs.Sizes.{most_bytes, most_entries}
use Rattle.refusal.specs.Answer.{pick, Answer, given, refused}
use Rattle.tlv.specs.Entries.{Content}
use Rattle.tlv_writing.specs.Encode.{encode, encode_all}
use Rattle.change_lists.specs.Operations.{Op, set, remove, OpAt, op_at, ops_of, encode_op, encode_ops}
use Rattle.change_folds.specs.Fold.{about}
use Rattle.changes.specs.declared.Extent.{Extent}

-- ---- a table with a mark for each type

-- operations of a list that stands after base bytes of another
unfoldable pub shifted : (base : ℕ) → List OpAt → List OpAt
shifted base [] = []
shifted base (o ∷ os) = op_at (base + o.place) o.op ∷ shifted base os

unfoldable pub ops_after : (base : ℕ) → List ℕ → List OpAt
ops_after base s = shifted base (ops_of s).ops

-- what an operation leaves at its type; 0 where there is none
unfoldable pub mark_of : (place : ℕ) → Op → ℕ
mark_of p (set c) = p + 2
mark_of p (remove t) = 1

-- what stands at a type after the operations, where best stood before
unfoldable pub last_mark : (ty best : ℕ) → List OpAt → ℕ
last_mark t best [] = best
last_mark t best (o ∷ os) = last_mark t (pick (eqb (about o.op) t) (mark_of o.place o.op) best) os

pub record Marked (marks table : List ℕ) (os : List OpAt) : Type 0 where
  pub full : length marks ≡ 256
  pub is : (t : ℕ) → t < 256 → get_or marks t 0 ≡ last_mark t (get_or table t 0) os

-- ---- what the marks choose

-- the entries whose types have no mark
unfoldable pub spared : (marks : List ℕ) → List Content → List Content
spared m [] = []
spared m (c ∷ cs) = pick (eqb (get_or m c.ty 0) 0) (c ∷ spared m cs) (spared m cs)

-- what the sets set whose own marks stand at their types
unfoldable pub set_by : (marks : List ℕ) → (place : ℕ) → Op → List Content → List Content
set_by m p (set c) cs = pick (eqb (get_or m c.ty 0) (p + 2)) (c ∷ cs) cs
set_by m p (remove t) cs = cs

unfoldable pub chosen : (marks : List ℕ) → List OpAt → List Content
chosen m [] = []
chosen m (o ∷ os) = set_by m o.place o.op (chosen m os)

-- a removal of each type below n whose mark is a removal's
unfoldable pub gone_below : (n : ℕ) → (marks : List ℕ) → List Op
gone_below zero m = []
gone_below (suc n) m = gone_below n m ++ pick (eqb (get_or m n 0) 1) (remove n ∷ []) []

-- ---- how they are written

-- an entry, as a set or by itself
unfoldable pub encode_set : (marked : Bool) → Content → List ℕ
encode_set true c = encode_op (set c)
encode_set false c = encode c.ty c.value

unfoldable pub encode_sets : (marked : Bool) → List Content → List ℕ
encode_sets b [] = []
encode_sets b (c ∷ cs) = encode_set b c ++ encode_sets b cs

-- how many bytes entries take, and how many they are
abbrev pub extent_of : List Content → Extent
extent_of cs = record { bytes = length (encode_all cs); entries = length cs }

-- the operations that two lists fold to, by the marks of both
unfoldable pub folded_sets : (marks first second : List ℕ) → List Content
folded_sets m a b = chosen m (ops_after 0 a) ++ chosen m (ops_after (length a) b)

abbrev pub folded_extent : (marks first second : List ℕ) → Extent
folded_extent m a b = record {
  bytes = length (encode_ops (gone_below 256 m)) + length (encode_sets true (folded_sets m a b));
  entries = length (gone_below 256 m) + length (folded_sets m a b);
}

-- ---- whether a result of so many bytes and entries or operations keeps the sizes, then whether it has room
unfoldable pub room_for : (bytes entries room : ℕ) → Answer ℕ
room_for b e room = pick (ltb most_bytes b || ltb most_entries e) (refused 10 0 0) (pick (ltb room b) (refused 11 0 0) (given b))
