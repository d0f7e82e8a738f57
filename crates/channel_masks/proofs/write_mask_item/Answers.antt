-- `channel_masks::write_mask_item` meets its contract: the tests say whether the item is written, and then page, length and bytes are.
use mathlib.Core.Path.{◌∙◌}
use native.Mathlib.Omega.{arith}
use lib.ListN.{length-set}
use Rattle.laws.proofs.Emits.{emit_refused, emit_no_room}
use Rattle.channel_masks.proofs.Items.{item_too_long, item_fits, item_emitted}
use Rattle.channel_masks.proofs.write_mask_item.Goals as goal

pub returns-then-n-gt-MAX_MASK : goal.returns-then-n-gt-MAX_MASK
returns-then-n-gt-MAX_MASK c = rw c.refuse.ensures (emit_refused _ _ _ _ _ (item_too_long _ _ (omega arith)))

pub returns-then-n-out : goal.returns-then-n-out
returns-then-n-out c = rw c.refuse-then-n-out.ensures (emit_no_room _ _ _ (item_fits _ _ (omega arith)) (omega arith))

pub bounds-out-1 : goal.bounds-out-1
bounds-out-1 c = simp length-set (omega arith)

pub shape_of-out : goal.shape_of-out
shape_of-out c = c.put_bytes.auto.out ∙ simp length-set

pub returns : goal.returns
returns c = item_emitted _ _ _ _ _ c.put_bytes.ensures (omega arith) (omega arith)
