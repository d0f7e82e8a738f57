-- `base16::first_bad` meets its contract. The invariant: the search from i on finds what the whole search finds.
use mathlib.Core.Path.{◌≡◌}
use Prim.Native.Nat.{◌≤◌}
use lib.ListN.{length, drop}
use Rattle.base16.specs.Loops.{first_bad}
use Rattle.base16.proofs.first_bad.Given as goal

abbrev pub invariant-loop-i : goal.invariant-loop-i
invariant-loop-i l = (l.i ≤ length l.text) × (first_bad l.i (drop l.i l.text) ≡ first_bad 0 l.text)
