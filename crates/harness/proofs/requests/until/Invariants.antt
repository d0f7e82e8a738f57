-- `requests::until` meets its contract. The invariant: i bytes and those before the first stop from i on are those of the whole. Assumes nothing.
use mathlib.Core.Path.{◌≡◌}
use Prim.Native.Nat.{◌+◌}
use lib.ListN.{drop}
use Rattle.harness.specs.Places.{bytes_before}
use Rattle.harness.proofs.requests.until.Given as goal

abbrev pub invariant-loop-i : goal.invariant-loop-i
invariant-loop-i l = l.i + bytes_before l.stop (drop l.i l.s) ≡ bytes_before l.stop l.s
