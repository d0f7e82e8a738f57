-- `address_reading::read_address` meets its contract.
use mathlib.Core.Path.{sym}
use native.Mathlib.Omega.{arith}
use Rattle.laws.proofs.Emits.{placed_left, emit_refused, emit_no_room, emit_done}
use Rattle.address_reading.proofs.Laid.{read_given, read_none}
use Rattle.address_reading.proofs.read_address.Goals as goal

pub returns-then-count-ne8 : goal.returns-then-count-ne8
returns-then-count-ne8 c = rw c.refuse.ensures (emit_refused _ _ _ _ _ (sym (read_none _ _ _ c.take_text-count.ensures (λ z. omega arith))))

pub returns-then-out-lt16 : goal.returns-then-out-lt16
returns-then-out-lt16 c =
    let is = read_given _ _ _ c.take_text-count.ensures (omega arith) in
    rw c.refuse-then-out-lt16.ensures (emit_no_room _ _ _ is (omega (arith, c.take_text-count.auto.out)))

pub returns : goal.returns
returns c =
    let is = read_given _ _ _ c.take_text-count.ensures (omega arith) in
    let long = c.take_text-count.auto.out in
    emit_done _ _ _ is _ _ (sym long) (placed_left _ _ _ _ _ c.put_bytes.ensures (omega arith)) (omega arith)
