-- THE definition of a dataset's index. Document 02, Seven: "for each of the 256 types, how many entries and where the last begins. Stored, it
-- opens with the mark 49 58, followed for each type by its count and its place as two bytes each, place 0 where the count is 0."
-- Assumes nothing.
use Rattle.std.specs.Prelude.{ℕ, zero, suc, List, [], ◌∷◌, ◌++◌, eqb}
use Rattle.refusal.specs.Answer.{pick, Answer, given, absent, refused, on_given, then_do}
use Rattle.refusal.specs.Each.{same}
use Rattle.wire_bytes.specs.Bytes.{bytes_of}
use Rattle.tlv.specs.Entries.{Entry}
use Rattle.tlv.specs.Limits.{framed}
use Rattle.tlv_last.specs.Last.{last_of}

-- "how many entries"
unfoldable pub how_many : (ty : ℕ) → List Entry → ℕ
how_many ty [] = 0
how_many ty (e ∷ es) = pick (eqb e.ty ty) (suc (how_many ty es)) (how_many ty es)

-- the place of an entry, its first byte's; 0 where there is none
abbrev pub place_or0 : Answer Entry → ℕ
place_or0 (given e) = e.place
place_or0 absent = 0
place_or0 (refused n p i) = 0

-- "where the last begins ... place 0 where the count is 0"
unfoldable pub last_place : (ty : ℕ) → List Entry → ℕ
last_place ty es = place_or0 (last_of ty absent es)

-- "for each type ... its count and its place as two bytes each": n types from t on
unfoldable pub slots : (t n : ℕ) → List Entry → List ℕ
slots t zero es = []
slots t (suc n) es = bytes_of 2 (how_many t es) ++ (bytes_of 2 (last_place t es) ++ slots (suc t) n es)

unfoldable pub index_bytes : List Entry → List ℕ
index_bytes es = 0x49 ∷ 0x58 ∷ slots 0 256 es

-- how long that is, whatever the entries (`index_length`, proofs/Slots.antt)
abbrev pub index_size : ℕ
index_size = 1026

-- the index of a dataset, or 1, 2, 3
unfoldable pub built : List ℕ → Answer (List ℕ)
built s = on_given index_bytes (framed 0 s)

-- "17, place 0 of the second input, for a stored index that is misframed or isn't the one the dataset gives; after all faults of the dataset"
unfoldable pub loaded : List ℕ → (stored : List ℕ) → Answer (Unit {0})
loaded s x = then_do (built s) (λ (ix : List ℕ). pick (same ix x) (given tt) (refused 17 0 1))
