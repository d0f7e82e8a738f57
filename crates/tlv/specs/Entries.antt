-- THE definition of framing: the entries of a list of bytes. Document 01, "Framing and datasets": "An entry is a type byte, a length byte
-- 0 to 254, then the value; or type, 255, two length bytes, then the value. Fewer than 2 bytes, or fewer than 4 with the 255, is refusal 2.
-- ... Unknown types and duplicates are kept in order."
-- Assumes nothing.
use Rattle.std.specs.Prelude.{ℕ, zero, suc, ◌+◌, ◌*◌, List, [], ◌∷◌, length, take, drop, leb, eqb}
use Rattle.refusal.specs.Answer.{pick}

-- what stands first: nothing, an entry that is cut short, or an entry, the size of its header, and the bytes after it
pub data First : Type 0 where
  none : First
  cut : First
  one : (ty header : ℕ) (value rest : List ℕ) → First

-- the value is the next n bytes
unfoldable pub valued : (ty header n : ℕ) → List ℕ → First
valued t h n rest = pick (leb n (length rest)) (one t h (take n rest) (drop n rest)) cut

unfoldable pub long : (ty : ℕ) → List ℕ → First
long t [] = cut
long t (a ∷ []) = cut
long t (a ∷ b ∷ rest) = valued t 4 (a * 256 + b) rest

-- "type, 255, two length bytes": the length byte that announces a long header
abbrev pub marker : ℕ
marker = 255

unfoldable pub first : List ℕ → First
first [] = none
first (t ∷ []) = cut
first (t ∷ l ∷ rest) = pick (eqb l marker) (long t rest) (valued t 2 l rest)

-- an entry: the place of its first byte in the input, its type, the place where its value starts, its value
pub record Entry : Type 0 where
  pub place : ℕ
  pub ty : ℕ
  pub start : ℕ
  pub value : List ℕ

abbrev pub entry : (place ty start : ℕ) → (value : List ℕ) → Entry
entry p t a v = record { place = p; ty = t; start = a; value = v }

-- what an entry says, wherever it stands
pub record Content : Type 0 where
  pub ty : ℕ
  pub value : List ℕ

abbrev pub content : (ty : ℕ) → (value : List ℕ) → Content
content t v = record { ty = t; value = v }

unfoldable pub contents : List Entry → List Content
contents [] = []
contents (e ∷ es) = content e.ty e.value ∷ contents es

-- how the entries end: with the input, or before the entry that is cut short, at its first byte
pub data Stop : Type 0 where
  clean : Stop
  cut_at : ℕ → Stop

pub record Framing : Type 0 where
  pub entries : List Entry
  pub stop : Stop

abbrev pub done : Stop → Framing
done x = record { entries = []; stop = x }

abbrev pub onto : Entry → Framing → Framing
onto e f = record { entries = e ∷ f.entries; stop = f.stop }

-- what stands first at the place at, and then what `next` finds at the place after it
unfoldable pub step : (at : ℕ) → First → (ℕ → List ℕ → Framing) → Framing
step at none next = done clean
step at cut next = done (cut_at at)
step at (one t h v rest) next = onto (entry at t (at + h) v) (next (at + h + length v) rest)

-- the entries of bytes that begin at the place at, in at most `fuel` steps
unfoldable pub frames : (fuel at : ℕ) → List ℕ → Framing
frames zero at s = done clean
frames (suc fuel) at s = step at (first s) (λ (next : ℕ) (rest : List ℕ). frames fuel next rest)

-- the entries of s. Each takes at least 2 bytes, so that a step for each byte is enough (`framing_step`, proofs/Walks.antt)
unfoldable pub framing : List ℕ → Framing
framing s = frames (length s) 0 s
