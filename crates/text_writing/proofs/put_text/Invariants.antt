-- `text_writing::put_text` meets its contract. The invariant: what is left of the text, laid from here on, makes of out what all of it makes.
use mathlib.Core.Path.{◌≡◌}
use Prim.Native.Nat.{◌≤◌}
use lib.ListN.{length, drop}
use Rattle.text_writing.specs.Laid.{laid}
use Rattle.text_writing.proofs.put_text.Given as goal

abbrev pub invariant-loop-b : goal.invariant-loop-b
invariant-loop-b l = (l.b-index ≤ length l.text) × (length l.out ≡ length l.initial.out) × (laid l.next l.out (drop l.b-index l.text) ≡ laid l.at l.initial.out l.text)
