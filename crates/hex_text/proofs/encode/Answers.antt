-- `hex_text::encode` meets its contract.
use mathlib.Core.Path.{refl}
use native.Mathlib.Omega.{arith}
use Rattle.laws.proofs.Emits.{emit_no_room, emit_done}
use Rattle.hex_text.proofs.Texts.{length_text}
use Rattle.hex_text.proofs.encode.Goals as goal

pub returns-then-bytes-out : goal.returns-then-bytes-out
returns-then-bytes-out c =
    let a = c.args in
    rw c.refuse.ensures (emit_no_room _ _ _ refl (omega (arith, length_text a.bytes.now)))

pub returns : goal.returns
returns c =
    let a = c.args in
    emit_done _ _ _ refl _ _ (omega (arith, length_text a.bytes.now)) c.put_text.ensures (omega (arith, length_text a.bytes.now))
