-- A count of entries that were passed is small: each of them takes bytes. For the loops that count, so that their sums fit.
-- Assumes nothing.
use mathlib.Core.Path.{◌≡◌}
use mathlib.Core.List.{List, ◌∷◌}
use Prim.Native.Nat.{ℕ, ◌+◌, ◌≤◌}
use native.Mathlib.Omega.{arith}
use lib.ListN.{length}
use Rattle.refusal.specs.Every.{Every}
use Rattle.tlv.specs.Entries.{Entry, framing}
use Rattle.tlv.proofs.Walks.{Lies, framing_lies}
use Rattle.tlv.proofs.Follows.{Follow, framing_follows}

-- n are counted, and l, which begins at the place at, is still to be passed
pub record Passed (n : ℕ) (s : List ℕ) (l : List Entry) : Type 0 where
  pub at : ℕ
  pub follow : Follow at l
  pub lie : Every (Lies s) l
  pub few : n ≤ at

pub passed_start : (s : List ℕ) → Passed 0 s (framing s).entries
passed_start s = record { at = 0; follow = framing_follows s; lie = framing_lies s; few = omega arith }

-- a turn: e is passed, and es are left
module _ (n : ℕ) (s : List ℕ) (e : Entry) (l es : List Entry) (is : l ≡ e ∷ es) (p : Passed n s l) where
  turn : (e.place ≡ p.at) × (e.place + 2 ≤ e.start) × (e.start + length e.value ≤ length s) × Follow (e.start + length e.value) es × Every (Lies s) es
  turn = let o = rw is at p.follow in let i = rw is at p.lie in (o.0, i.0.0, i.0.1, o.2, i.1)

  pub passed_room : (n + 2 ≤ e.start) × (e.start ≤ length s)
  passed_room = (omega (arith, turn.0, turn.1, p.few), omega (arith, turn.2))

  pub passed_more : (m : ℕ) → m ≤ n + 1 → Passed m s es
  passed_more m most = record { at = e.start + length e.value; follow = turn.3; lie = turn.4; few = omega (arith, most, passed_room.0) }
