-- "A query uses the last entry of its type" (document 01).
-- Assumes nothing.
use Rattle.std.specs.Prelude.{ℕ, List, [], ◌∷◌, length, eqb}
use Rattle.refusal.specs.Answer.{pick, Answer, given, absent, refused, then_do, on_given}
use Rattle.tlv.specs.Entries.{Entry}
use Rattle.tlv.specs.Limits.{framed}
pub use Rattle.tlv_last.specs.declared.Spot.{Spot}

-- the last of es that has the type, or `best` where none has
unfoldable pub last_of : (ty : ℕ) → Answer Entry → List Entry → Answer Entry
last_of ty best [] = best
last_of ty best (e ∷ es) = last_of ty (pick (eqb e.ty ty) (given e) best) es

unfoldable pub last_entry : (ty input : ℕ) → List ℕ → Answer Entry
last_entry ty i s = then_do (framed i s) (last_of ty absent)

abbrev pub spot_at : (place start len : ℕ) → Spot
spot_at p a n = record { place = p; start = a; len = n }

abbrev pub spot : Entry → Spot
spot e = spot_at e.place e.start (length e.value)

unfoldable pub last_spot : (ty input : ℕ) → List ℕ → Answer Spot
last_spot ty i s = on_given spot (last_entry ty i s)

-- the value of an entry that is given, and no bytes where none is
abbrev pub value_or : Answer Entry → List ℕ
value_or (given e) = e.value
value_or absent = []
value_or (refused n p i) = []

unfoldable pub last_value : (ty : ℕ) → List ℕ → List ℕ
last_value ty s = value_or (last_entry ty 0 s)
