-- `dataset_texts::masks::put_items` is safe and ends, since an item lies within the mask and takes some of it. Assumes nothing.
use Prim.Native.Nat.{◌≤◌, ◌-◌}
use lib.ListN.{length}
use Rattle.harness.proofs.dataset_texts.masks.put_items.Given as goal

abbrev pub invariant-loop-page : goal.invariant-loop-page
invariant-loop-page l = l.place ≤ length l.value

abbrev pub decreases-loop-page : goal.decreases-loop-page
decreases-loop-page l = length l.value - l.place
