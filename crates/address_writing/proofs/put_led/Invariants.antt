-- `address_writing::put_led` meets its contract. The invariant: what is left, stored from next on, makes of out what the whole makes of it from at on.
use mathlib.Core.Path.{◌≡◌}
use Prim.Native.Nat.{◌+◌}
use lib.ListN.{length}
use Rattle.refusal.specs.Output.{put}
use Rattle.address_forms.specs.Groups.{groups}
use Rattle.address_forms.specs.Colons.{led}
use Rattle.address_forms.specs.AddressText.{texts}
use Rattle.address_writing.proofs.put_led.Given as goal

abbrev pub invariant-loop-rest : goal.invariant-loop-rest
invariant-loop-rest l = (length l.out ≡ length l.initial.out)
    × (l.next + length (led (texts (groups l.rest))) ≡ l.at + length (led (texts (groups l.bytes))))
    × (put l.out l.next (led (texts (groups l.rest))) ≡ put l.initial.out l.at (led (texts (groups l.bytes))))

abbrev pub decreases-loop-rest : goal.decreases-loop-rest
decreases-loop-rest l = length l.rest
