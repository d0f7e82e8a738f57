-- `requests::read` is safe and ends, since each turn passes a blank. Assumes nothing.
use Prim.Native.Nat.{◌≤◌, ◌-◌}
use lib.ListN.{length}
use Rattle.harness.proofs.requests.read.Given as goal

abbrev pub invariant-loop-blank : goal.invariant-loop-blank
invariant-loop-blank l = l.blank ≤ length l.line

abbrev pub decreases-loop-blank : goal.decreases-loop-blank
decreases-loop-blank l = length l.line - l.blank
