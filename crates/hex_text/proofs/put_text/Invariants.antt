-- `hex_text::put_text` meets its contract. The invariant: the text of the bytes from i on, stored from 2 * i on, makes of out what the whole text makes of it.
use mathlib.Core.Path.{◌≡◌}
use Prim.Native.Nat.{◌*◌, ◌≤◌}
use lib.ListN.{length, drop}
use Rattle.refusal.specs.Output.{put}
use Rattle.hex_text.specs.HexText.{hex_text}
use Rattle.hex_text.proofs.put_text.Given as goal

abbrev pub invariant-loop-i : goal.invariant-loop-i
invariant-loop-i l = (l.i ≤ length l.bytes) × (length l.out ≡ length l.initial.out)
    × (put l.out (2 * l.i) (hex_text (drop l.i l.bytes)) ≡ put l.initial.out 0 (hex_text l.bytes))
