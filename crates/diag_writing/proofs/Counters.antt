-- The bytes of nine numbers, element by element.
-- Assumes nothing.
use mathlib.Core.Path.{◌≡◌}
use mathlib.Core.List.{List, [], ◌∷◌}
use Prim.Native.Nat.{ℕ}
use lib.ListN.{get_or}
use Rattle.refusal.specs.Each.{joined}
use Rattle.wire_bytes.specs.Bytes.{bytes_of}
use Rattle.diag_values.specs.declared.MacCounters.{MacCounters}
use Rattle.value_writing.specs.Encode.{counters_bytes}

-- four bytes of an array, and those after them
abbrev four : List ℕ → List ℕ → List ℕ
four a l = get_or a 0 0 ∷ get_or a 1 0 ∷ get_or a 2 0 ∷ get_or a 3 0 ∷ l

abbrev Of : List ℕ → ℕ → Type 0
Of a x = a ≡ bytes_of 4 x

pub nine : (c : MacCounters) (a b d e f g h i j : List ℕ) → Of a c.if_in_unknown_protos → Of b c.if_in_errors → Of d c.if_out_errors
    → Of e c.if_in_ucast_pkts → Of f c.if_in_broadcast_pkts → Of g c.if_in_discards → Of h c.if_out_ucast_pkts
    → Of i c.if_out_broadcast_pkts → Of j c.if_out_discards
    → four a (four b (four d (four e (four f (four g (four h (four i (four j [])))))))) ≡ counters_bytes c
unfolding counters_bytes joined bytes_of
nine c a b d e f g h i j ea eb ed ee ef eg eh ei ej = rw (ea, eb, ed, ee, ef, eg, eh, ei, ej)
