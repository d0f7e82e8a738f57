-- `listing::write_refused` meets its contract: 11 by the size that the line takes in no room, or the line.
use mathlib.Core.Path.{refl}
use native.Mathlib.Omega.{arith}
use Rattle.text_writing.proofs.Lays.{lays_no_room, lays_done}
use Rattle.listing.proofs.write_refused.Goals as goal

pub returns-then-size-out : goal.returns-then-size-out
returns-then-size-out c = rw c.refuse.ensures (lays_no_room _ _ _ refl _ _ _ c.put_refused-size.ensures c.if-size-out.true)

pub returns : goal.returns
returns c =
    lays_done _ _ _ refl _ _ _ c.put_refused-size.ensures (omega arith) c.if-size-out.false _ _ c.put_refused.ensures
