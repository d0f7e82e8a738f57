-- `changes::count_removals` meets its contract. The invariant: n is the number of removals of the types below t.
use mathlib.Core.Path.{◌≡◌}
use Prim.Native.Nat.{◌≤◌}
use lib.ListN.{length}
use Rattle.changes.specs.Loops.{gone_below}
use Rattle.changes.proofs.count_removals.Given as goal

abbrev pub invariant-loop-t : goal.invariant-loop-t
invariant-loop-t l = (l.n ≤ l.t) × (l.n ≡ length (gone_below l.t l.marks))
