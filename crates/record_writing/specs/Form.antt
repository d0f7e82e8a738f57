-- Document 01's form of a payload that is written. Document 02, One: "types ascending"; document 01: "Writing uses the short header to 254 and the long one
-- from 255"; every type but 30 is said once.
-- Assumes nothing.
use Rattle.std.specs.Prelude.{◌≡◌, false, List, [], ◌∷◌, map, ℕ, ◌≤◌, eqb}
use Rattle.refusal.specs.Answer.{given}
use Rattle.refusal.specs.Every.{Every}
use Rattle.tlv.specs.Entries.{Entry}
use Rattle.tlv.specs.Limits.{framed}
use Rattle.tlv_writing.specs.Encode.{Shortest}
use Rattle.pair_rule.specs.Pairing.{occurs}

-- none is over the next
abbrev pub Ascending : List ℕ → Type 0
Ascending [] = Unit {0}
Ascending (x ∷ []) = Unit {0}
Ascending (x ∷ y ∷ ys) = (x ≤ y) × Ascending (y ∷ ys)

abbrev pub types : List Entry → List ℕ
types es = map (λ (e : Entry). e.ty) es

-- bs are entries: their types ascend, each but 30 stands there at most once, and each header is the shortest
pub record Formed (bs : List ℕ) : Type 0 where
  pub entries : List Entry
  pub are : framed 0 bs ≡ given entries
  pub ascending : Ascending (types entries)
  pub once : (t : ℕ) → eqb t 30 ≡ false → occurs t (types entries) ≤ 1
  pub shortest : Every Shortest entries
