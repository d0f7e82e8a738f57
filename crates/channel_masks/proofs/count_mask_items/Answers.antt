-- `channel_masks::count_mask_items` meets its contract. The invariant: counting on from the place at, with n items passed, gives the answer.
-- The measure is what is left of the value.
use mathlib.Core.Path.{◌∙◌}
use native.Mathlib.Omega.{arith}
use borrow.Author.Rules.{rules}
use borrow.Author.Tests.{lt-ltb}
use Rattle.channel_masks.specs.Mask.{items}
use Rattle.channel_masks.proofs.Items.{tally_start, turn_end, turn_cut, turn_item, turn_inside}
use Rattle.channel_masks.proofs.count_mask_items.Goals as goal

pub returns-then-value-gt-MAX_BYTES : goal.returns-then-value-gt-MAX_BYTES
unfolding items
returns-then-value-gt-MAX_BYTES c = rw c.refuse.ensures (simp (lt-ltb _ _ c.if-value-gt-MAX_BYTES.true))

pub loop-start-init : goal.loop-start-init
loop-start-init c = (search rules, search rules, tally_start _ _ c.if-value-gt-MAX_BYTES.false)

-- t is the place where the arm has bound the item's fields, and h where `mask_item_at` has returned
pub overflow_add-n : goal.overflow_add-n
overflow_add-n c = omega (arith, turn_inside _ _ _ c.mask_item_at.ensures _ _ _ c.in-Item.is)

pub overflow_add-at : goal.overflow_add-at
overflow_add-at c = omega (arith, turn_inside _ _ _ c.mask_item_at.ensures _ _ _ c.in-Item.is)

pub loop-start-smaller : goal.loop-start-smaller
loop-start-smaller c = omega (arith, turn_inside _ _ _ c.mask_item_at.ensures _ _ _ c.in-Item.is)

pub loop-start-preserved : goal.loop-start-preserved
loop-start-preserved c =
    let inside = turn_inside _ _ _ c.mask_item_at.ensures _ _ _ c.in-Item.is in
    (inside.1, omega (arith, inside), turn_item _ _ _ _ _ c.mask_item_at.ensures _ _ _ c.in-Item.is ∙ c.loop-start.invariant.2)

pub returns-in-Cut : goal.returns-in-Cut
returns-in-Cut c = c.refuse-in-Cut.ensures ∙ turn_cut _ _ _ _ _ c.mask_item_at.ensures c.in-Cut.is ∙ c.loop-start.invariant.2

pub returns-in-End : goal.returns-in-End
returns-in-End c = turn_end _ _ _ _ _ c.mask_item_at.ensures c.in-End.is ∙ c.loop-start.invariant.2
