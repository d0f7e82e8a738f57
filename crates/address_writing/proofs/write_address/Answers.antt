-- `address_writing::write_address` meets its contract.
use mathlib.Core.Path.{refl}
use native.Mathlib.Omega.{arith}
use Rattle.laws.proofs.Emits.{emit_no_room}
use Rattle.address_writing.proofs.Turns.{text_written}
use Rattle.address_writing.proofs.write_address.Goals as goal

pub returns-then-n-out : goal.returns-then-n-out
returns-then-n-out c = rw c.refuse.ensures (emit_no_room _ _ _ refl (omega (arith, c.lay_text-n.ensures.0)))

pub returns : goal.returns
returns c =
    text_written _ _ _ _ _ _ _ c.lay_text-n.ensures.0 c.lay_text-n.ensures.1 c.lay_text-n.ensures.2 c.put_bytes.ensures c.if-n-out.false
