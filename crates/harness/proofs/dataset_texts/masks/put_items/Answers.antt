-- `dataset_texts::masks::put_items` is safe and ends, since an item lies within the mask and takes some of it. Assumes nothing.
use native.Mathlib.Omega.{arith}
use Rattle.channel_masks.proofs.Items.{turn_inside}
use Rattle.harness.proofs.dataset_texts.masks.put_items.Goals as goal

pub overflow_add-end : goal.overflow_add-end
overflow_add-end c = omega (arith, turn_inside _ _ _ c.mask_item_at.ensures _ _ _ c.in-Item.is)

pub loop-page-smaller : goal.loop-page-smaller
loop-page-smaller c = omega (arith, turn_inside _ _ _ c.mask_item_at.ensures _ _ _ c.in-Item.is)

pub loop-page-preserved : goal.loop-page-preserved
loop-page-preserved c = (turn_inside _ _ _ c.mask_item_at.ensures _ _ _ c.in-Item.is).1
