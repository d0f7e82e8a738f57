-- `tlv::count_entries` meets its contract. The invariant: counting on from the place at, with n entries passed, gives the answer.
-- The measure is what is left of the input. Assumes nothing.
use mathlib.Core.Path.{◌≡◌}
use Prim.Native.Nat.{◌-◌, ◌≤◌}
use lib.ListN.{length}
use Rattle.tlv.specs.Limits.{count}
use Rattle.tlv.proofs.Walks.{from}
use Rattle.tlv.proofs.Tally.{tally}
use Rattle.tlv.proofs.count_entries.Given as goal

abbrev pub invariant-loop-start : goal.invariant-loop-start
invariant-loop-start l = (l.at ≤ length l.s) × (l.n ≤ l.at) × (tally l.input l.n l.over (from l.s l.at) ≡ count l.input l.s)

abbrev pub decreases-loop-start : goal.decreases-loop-start
decreases-loop-start l = length l.s - l.at
