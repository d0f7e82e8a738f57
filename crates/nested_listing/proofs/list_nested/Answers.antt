-- `nested_listing::list_nested` meets its contract: the count's refusal, 11 by the size that the lines take in no room, or the lines.
use native.Mathlib.Omega.{arith}
use Rattle.laws.proofs.Emits.{emit_refused}
use Rattle.refusal.proofs.Papers.{passes}
use Rattle.text_writing.proofs.Lays.{lays_no_room, lays_done}
use Rattle.nested_listing.proofs.Turns.{nested_given, nested_refused}
use Rattle.nested_listing.proofs.list_nested.Goals as goal

pub returns-then-need-out : goal.returns-then-need-out
returns-then-need-out c =
    let text = nested_given _ _ c.in_ok-count_entries.ensures in
    rw c.refuse.ensures (lays_no_room _ _ _ text _ _ _ c.put_list-need.ensures c.if-need-out.true)

pub returns-in_err-count_entries : goal.returns-in_err-count_entries
returns-in_err-count_entries c =
    rw (passes _ _ c.from_residual.ensures.1) (emit_refused _ _ _ _ _ (nested_refused _ _ _ _ c.in_err-count_entries.ensures))

pub returns : goal.returns
returns c =
    let text = nested_given _ _ c.in_ok-count_entries.ensures in
    lays_done _ _ _ text _ _ _ c.put_list-need.ensures (omega arith) c.if-need-out.false _ _ c.put_list.ensures
