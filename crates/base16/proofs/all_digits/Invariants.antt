-- `base16::all_digits` meets its contract. The invariant: what is known so far, and the characters from i on, say what all say.
use mathlib.Core.Path.{◌≡◌}
use mathlib.Core.Bool.{◌&&◌}
use Prim.Native.Nat.{◌≤◌}
use lib.ListN.{length, drop}
use Rattle.base16.specs.Loops.{all_digits}
use Rattle.base16.proofs.all_digits.Given as goal

abbrev pub invariant-loop-c : goal.invariant-loop-c
invariant-loop-c l = (l.c-index ≤ length l.text) × ((l.good && all_digits (drop l.c-index l.text)) ≡ all_digits l.text)
