-- `base16::put_bytes` meets its contract. The invariant: the bytes of the text from 2 * i on, stored from i on, make of out what all the bytes make of it.
use mathlib.Core.Path.{◌≡◌}
use Prim.Native.Nat.{◌*◌, ◌/◌, ◌≤◌}
use lib.ListN.{length, drop}
use Rattle.refusal.specs.Output.{put}
use Rattle.base16.specs.Loops.{paired}
use Rattle.base16.proofs.put_bytes.Given as goal

abbrev pub invariant-loop-i : goal.invariant-loop-i
invariant-loop-i l = (l.i ≤ length l.text / 2) × (length l.out ≡ length l.initial.out)
    × (put l.out l.i (paired (drop (2 * l.i) l.text)) ≡ put l.initial.out 0 (paired l.text))
