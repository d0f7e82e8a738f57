-- `change_lists::count_operations` meets its contract. The invariant: counting on from the place at, with n operations passed, gives the answer.
-- The measure is what is left of the list.
use mathlib.Core.Path.{◌≡◌}
use Prim.Native.Nat.{◌-◌, ◌≤◌}
use lib.ListN.{length}
use Rattle.refusal.specs.Answer.{on_given}
use Rattle.change_lists.specs.Operations.{operations}
use Rattle.change_lists.proofs.Reading.{ops_from}
use Rattle.change_lists.proofs.Counts.{tally}
use Rattle.change_lists.proofs.count_operations.Given as goal

abbrev pub invariant-loop-start : goal.invariant-loop-start
invariant-loop-start l = (l.at ≤ length l.list) × (l.n ≤ l.at) × (tally l.input l.n l.over (ops_from l.list l.at) ≡ on_given length (operations l.input l.list))

abbrev pub decreases-loop-start : goal.decreases-loop-start
decreases-loop-start l = length l.list - l.at
