-- `policy_forms::put_value` meets its contract.
use mathlib.Core.Path.{refl, ◌∙◌}
use native.Mathlib.Omega.{arith}
use native.Mathlib.Nat.{zero-add}
use Rattle.laws.proofs.Emits.{emit_no_room, emit_done, placed_next, placed_left}
use Rattle.policy_forms.proofs.put_value.Goals as goal

pub returns-then-value-out : goal.returns-then-value-out
returns-then-value-out c = rw c.refuse.ensures (emit_no_room _ _ _ refl c.if-value-out.true)

pub returns : goal.returns
returns c =
    let next = placed_next _ _ _ _ _ c.put_bytes.ensures (omega arith) ∙ zero-add _ in
    emit_done _ _ _ refl _ _ next (placed_left _ _ _ _ _ c.put_bytes.ensures (omega arith)) c.if-value-out.false
