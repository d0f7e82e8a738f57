-- What the walker comes by. Document 01: "The sub-TLV walker keeps the bytes still to be read, as `NetworkDataTlvIter` does; empty after a cut."
-- Assumes nothing.
use Rattle.std.specs.Prelude.{ℕ, zero, suc, ◌+◌, List, [], ◌∷◌, map, length, take, drop}
use Rattle.refusal.specs.Answer.{Answer, given, absent, refused}
use Rattle.network_framing.specs.Tlvs.{Piece, Stop, clean, short, Walk}
use Rattle.network_framing.specs.Frame.{sub_in}

-- what follows a TLV that stands in s
unfoldable pub after : List ℕ → Answer Piece → List ℕ
after s (given e) = drop (e.start + e.len) s
after s absent = []
after s (refused n p i) = []

-- what follows the first TLV of s: "empty after a cut"
unfoldable pub rest_of : List ℕ → List ℕ
rest_of s = after s (sub_in s 0 (length s))

-- a TLV without its place
pub record Tlv : Type 0 where
  pub ty : ℕ
  pub value : List ℕ

abbrev pub tlv : (ty : ℕ) → (value : List ℕ) → Tlv
tlv t v = record { ty = t; value = v }

-- TLVs in order, and how they end
pub record Came : Type 0 where
  pub tlvs : List Tlv
  pub stop : Stop

abbrev pub came : List Tlv → Stop → Came
came l x = record { tlvs = l; stop = x }

-- what the walker finds in s, and then what it comes by with what is left
unfoldable pub finds : List ℕ → Answer Piece → Came → Came
finds s absent next = came [] clean
finds s (refused n p i) next = came [] short
finds s (given e) next = came (tlv e.ty (take e.len (drop e.start s)) ∷ next.tlvs) next.stop

-- what it comes by with the bytes s still to be read, in at most so many steps
unfoldable pub comes_by : (fuel : ℕ) → List ℕ → Came
comes_by zero s = came [] clean
comes_by (suc k) s = finds s (sub_in s 0 (length s)) (comes_by k (rest_of s))

-- the same of the definition's TLVs
abbrev pub tlv_at : List ℕ → Piece → Tlv
tlv_at s e = tlv e.ty (take e.len (drop e.start s))

abbrev pub came_of : List ℕ → Walk → Came
came_of s w = came (map (tlv_at s) w.items) w.stop
