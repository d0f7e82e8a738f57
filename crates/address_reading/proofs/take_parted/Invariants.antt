-- `address_reading::take_parted` meets its contract. The invariant is `Going`: the rest of the text from its next character on is to what was taken as the whole
-- text is to nothing taken.
use mathlib.Core.Path.{◌≡◌}
use Prim.Native.Nat.{◌≤◌}
use lib.ListN.{length, drop}
use Rattle.address_reading.proofs.Turns.{Going}
use Rattle.address_reading.proofs.take_parted.Given as goal

abbrev pub invariant-loop-c : goal.invariant-loop-c
invariant-loop-c l = (l.count ≤ 8) × (length l.out ≡ length l.initial.out) × Going l.text l.initial.out l.count l.n l.v l.out (drop l.c-index l.text)
