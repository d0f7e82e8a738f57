-- `copying::put_bytes` meets its contract. The invariant: what is left of the bytes, stored from here on, makes of out what all of them make of it.
use mathlib.Core.Path.{◌≡◌}
use Prim.Native.Nat.{◌+◌}
use lib.ListN.{drop}
use Rattle.refusal.specs.Output.{put}
use Rattle.copying.proofs.put_bytes.Given as goal

abbrev pub invariant-loop-i : goal.invariant-loop-i
invariant-loop-i l = put l.out (l.at + l.i) (drop l.i l.bytes) ≡ put l.initial.out l.at l.bytes
