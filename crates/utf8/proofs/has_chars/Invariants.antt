-- `utf8::has_chars` meets its contract. The invariant: from here on s is UTF-8 exactly where all of it is.
use mathlib.Core.Path.{◌≡◌}
use Prim.Native.Nat.{◌-◌}
use lib.ListN.{length, drop}
use Rattle.utf8.specs.Utf8.{octets}
use Rattle.utf8.proofs.has_chars.Given as goal

abbrev pub invariant-loop-at : goal.invariant-loop-at
invariant-loop-at l = octets (drop l.at l.s) ≡ octets l.s

abbrev pub decreases-loop-at : goal.decreases-loop-at
decreases-loop-at l = length l.s - l.at
