-- `utf8::is_ascii` meets its contract. The invariant: what is known so far, and the bytes from i on, say what all say.
use mathlib.Core.Path.{◌≡◌}
use mathlib.Core.Bool.{◌&&◌}
use Prim.Native.Nat.{◌≤◌}
use lib.ListN.{length, drop}
use Rattle.utf8.specs.Chars.{all_one}
use Rattle.utf8.proofs.is_ascii.Given as goal

abbrev pub invariant-loop-b : goal.invariant-loop-b
invariant-loop-b l = (l.b-index ≤ length l.s) × ((l.good && all_one (drop l.b-index l.s)) ≡ all_one l.s)
