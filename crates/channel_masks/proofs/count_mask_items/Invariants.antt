-- `channel_masks::count_mask_items` meets its contract. The invariant: counting on from the place at, with n items passed, gives the answer.
-- The measure is what is left of the value.
use mathlib.Core.Path.{◌≡◌}
use Prim.Native.Nat.{◌-◌, ◌≤◌}
use lib.ListN.{length}
use Rattle.refusal.specs.Answer.{on_given}
use Rattle.channel_masks.specs.Mask.{items}
use Rattle.channel_masks.proofs.Items.{tally}
use Rattle.channel_masks.proofs.count_mask_items.Given as goal

abbrev pub invariant-loop-start : goal.invariant-loop-start
invariant-loop-start l = (l.at ≤ length l.value) × (l.n ≤ l.at) × (tally l.place l.value l.n l.at ≡ on_given length (items l.place l.value))

abbrev pub decreases-loop-start : goal.decreases-loop-start
decreases-loop-start l = length l.value - l.at
