-- `dataset_hex::framed_copy` meets its contract: the bytes as they are, once they are counted.
use Rattle.refusal.proofs.Papers.{passes}
use mathlib.Core.Path.{◌≡◌, sym, ap, ◌∙◌}
use mathlib.Core.List.{List}
use Prim.Native.Nat.{ℕ}
use native.Mathlib.Omega.{arith}
use native.Mathlib.Nat.{zero-add}
use Rattle.refusal.specs.Answer.{given}
use Rattle.refusal.specs.Results.{answer_of}
use Rattle.laws.proofs.Emits.{emit_refused, emit_no_room, emit_done, placed_next, placed_left}
use Rattle.tlv.specs.Limits.{count}
use Rattle.tlv.proofs.Tally.{answers_given, answers_refused}
use Rattle.dataset_hex.specs.Hex.{well_framed}
use Rattle.dataset_hex.proofs.framed_copy.Goals as goal

-- once the input is counted, it is given as it is
whole : (s : List ℕ) (n : ℕ) → given n ≡ count 0 s → well_framed s ≡ given s
unfolding well_framed
whole s n told = answers_given _ _ _ _ told

pub returns-in_err-count_entries : goal.returns-in_err-count_entries
unfolding well_framed
returns-in_err-count_entries c =
    rw (passes _ _ c.from_residual.ensures.1) (emit_refused _ _ _ _ _ (answers_refused _ _ _ _ _ _ c.in_err-count_entries.ensures))

pub returns-then-s-out : goal.returns-then-s-out
returns-then-s-out c =
    rw c.refuse.ensures (emit_no_room _ _ _ (whole _ _ c.in_ok-count_entries.ensures) c.if-s-out.true)

pub returns : goal.returns
returns c =
    let next = placed_next _ _ _ _ _ c.put_bytes.ensures (omega arith) ∙ zero-add _ in
    emit_done _ _ _ (whole _ _ c.in_ok-count_entries.ensures) _ _ next (placed_left _ _ _ _ _ c.put_bytes.ensures (omega arith)) c.if-s-out.false
