-- `dataset_parts::channel_mask` meets its contract, by what `last_entry` answered. What `count_mask_items` then answered is for the search (`mask_by_spot`).
use mathlib.Core.Path.{ap, ◌∙◌}
use native.Mathlib.Omega.{arith}
use Rattle.refusal.specs.Results.{found_of}
use Rattle.refusal.proofs.Papers.{passes}
use Rattle.dataset.proofs.Finds.{found_inside}
use Rattle.dataset_parts.proofs.Keeps.{no_mask, no_mask_of}
use Rattle.dataset_parts.proofs.channel_mask.Goals as goal

pub returns-in_err-place : goal.returns-in_err-place
returns-in_err-place c = ap found_of (passes _ _ c.from_residual.ensures.1) ∙ no_mask_of _ _ _ _ c.in_err-place.ensures

pub overflow_add-start : goal.overflow_add-start
overflow_add-start c = omega (arith, found_inside _ _ _ _ _ (rw c.in-Some.is at c.in_ok-place.ensures))

pub slice_bounds-count_mask_items-end : goal.slice_bounds-count_mask_items-end
slice_bounds-count_mask_items-end c = omega (arith, found_inside _ _ _ _ _ (rw c.in-Some.is at c.in_ok-place.ensures))

pub returns-in-None : goal.returns-in-None
returns-in-None c = no_mask _ (rw c.in-None.is at c.in_ok-place.ensures)
