-- THE definition of Network Data's framing, on lists of bytes. Document 01, type 7: "TLVs of type times 2 plus stable bit, a one-byte length (255 is no
-- marker here), value. Type 1 is a prefix: domain, bit length, bit length over 8 rounded up in bytes, then inner TLVs."
-- Assumes nothing.
use Rattle.std.specs.Prelude.{ℕ, zero, suc, ◌+◌, ◌/◌, List, [], ◌∷◌, length, take, drop, leb}
use Rattle.refusal.specs.Answer.{pick}

-- what stands first: nothing, a TLV that is cut short, or a TLV and the bytes after it
pub data First : Type 0 where
  none : First
  cut : First
  one : (ty : ℕ) (value rest : List ℕ) → First

unfoldable pub first : List ℕ → First
first [] = none
first (t ∷ []) = cut
first (t ∷ l ∷ rest) = pick (leb l (length rest)) (one (t / 2) (take l rest) (drop l rest)) cut

-- what a prefix's value begins with: its own bytes, and the inner TLVs after them; or they are cut short
pub data Opening : Type 0 where
  broken : Opening
  opening : (domain bits : ℕ) (bytes rest : List ℕ) → Opening

-- "bit length over 8 rounded up in bytes"
abbrev pub bytes_for : ℕ → ℕ
bytes_for bits = (bits + 7) / 8

unfoldable pub opened : List ℕ → Opening
opened [] = broken
opened (d ∷ []) = broken
opened (d ∷ b ∷ rest) = pick (leb (bytes_for b) (length rest)) (opening d b (take (bytes_for b) rest) (drop (bytes_for b) rest)) broken

-- what it says of itself, and nothing where it is cut short
unfoldable pub domain_of : Opening → ℕ
domain_of broken = 0
domain_of (opening d b bytes rest) = d

unfoldable pub bits_of : Opening → ℕ
bits_of broken = 0
bits_of (opening d b bytes rest) = b

unfoldable pub bytes_of : Opening → List ℕ
bytes_of broken = []
bytes_of (opening d b bytes rest) = bytes

-- a TLV: its type, where its value starts, and how long that is
pub record Piece : Type 0 where
  pub ty : ℕ
  pub start : ℕ
  pub len : ℕ

abbrev pub piece : (ty start len : ℕ) → Piece
piece t a n = record { ty = t; start = a; len = n }

-- how TLVs end: where they have to, or at one that is cut short
pub data Stop : Type 0 where
  clean : Stop
  short : Stop

-- the TLVs before that, in order
pub record Walk : Type 0 where
  pub items : List Piece
  pub stop : Stop

abbrev pub done : Stop → Walk
done x = record { items = []; stop = x }

abbrev pub onto : Piece → Walk → Walk
onto e w = record { items = e ∷ w.items; stop = w.stop }

-- what stands first at the place at, and then what `next` finds at the place after it
unfoldable pub step : (at : ℕ) → First → (ℕ → List ℕ → Walk) → Walk
step at none next = done clean
step at cut next = done short
step at (one t v rest) next = onto (piece t (at + 2) (length v)) (next (at + 2 + length v) rest)

-- the TLVs of bytes that begin at the place at, in at most `fuel` steps: each takes at least 2 bytes, so that a step for each byte is enough
unfoldable pub frames : (fuel at : ℕ) → List ℕ → Walk
frames zero at s = done clean
frames (suc fuel) at s = step at (first s) (λ (next : ℕ) (rest : List ℕ). frames fuel next rest)
