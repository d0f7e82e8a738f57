-- `listing::list` meets its contract: the count's refusal, 11 by the size that the text takes in no room, or the text.
use native.Mathlib.Omega.{arith}
use Rattle.laws.proofs.Emits.{emit_refused}
use Rattle.refusal.proofs.Papers.{passes}
use Rattle.tlv.proofs.Tally.{counted_number}
use Rattle.text_writing.proofs.Lays.{lays_no_room, lays_done}
use Rattle.listing.proofs.Counts.{listed_given, listed_refused}
use Rattle.listing.proofs.list.Goals as goal

pub put_listing-need-requires : goal.put_listing-need-requires
put_listing-need-requires c = counted_number 0 _ _ c.in_ok-n.ensures

pub returns-then-need-out : goal.returns-then-need-out
returns-then-need-out c =
    let text = listed_given _ _ c.in_ok-n.ensures in
    rw c.refuse.ensures (lays_no_room _ _ _ text _ _ _ c.put_listing-need.ensures c.if-need-out.true)

pub put_listing-requires : goal.put_listing-requires
put_listing-requires c = counted_number 0 _ _ c.in_ok-n.ensures

pub returns-in_err-n : goal.returns-in_err-n
returns-in_err-n c = rw (passes _ _ c.from_residual.ensures.1) (emit_refused _ _ _ _ _ (listed_refused _ _ _ _ c.in_err-n.ensures))

pub returns : goal.returns
returns c =
    let text = listed_given _ _ c.in_ok-n.ensures in
    lays_done _ _ _ text _ _ _ c.put_listing-need.ensures (omega arith) c.if-need-out.false _ _ c.put_listing.ensures
