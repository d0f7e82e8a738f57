-- `address_reading::take_text` meets its contract.
use mathlib.Core.Path.{ap, ◌∙◌}
use native.Mathlib.Omega.{arith}
use lib.ListN.{length}
use Rattle.address_forms.proofs.Gaps.{gap_parts}
use Rattle.address_forms.proofs.Decides.{long_none}
use Rattle.address_reading.specs.Loops.{of_eight}
use Rattle.address_reading.proofs.Counts.{address_whole, address_around}
use Rattle.address_reading.proofs.Laid.{whole_read}
use Rattle.address_reading.proofs.take_text.Goals as goal

pub returns-then-text-gt-MAX_TEXT : goal.returns-then-text-gt-MAX_TEXT
unfolding of_eight
returns-then-text-gt-MAX_TEXT c = long_none _ (omega arith)

pub take_groups-requires : goal.take_groups-requires
take_groups-requires c = omega (arith, ap length c.requires)

pub slice_bounds-take_around-end : goal.slice_bounds-take_around-end
slice_bounds-take_around-end c =
    let room = (gap_parts c.args.text.now (λ z. omega (arith, c.find_gap-gap.ensures))).0 in
    omega (arith, c.find_gap-gap.ensures)

pub overflow_add-gap : goal.overflow_add-gap
overflow_add-gap c =
    let room = (gap_parts c.args.text.now (λ z. omega (arith, c.find_gap-gap.ensures))).0 in
    omega (arith, c.find_gap-gap.ensures)

pub slice_bounds-take_around-count-else-gap-text : goal.slice_bounds-take_around-count-else-gap-text
slice_bounds-take_around-count-else-gap-text c =
    let room = (gap_parts c.args.text.now (λ z. omega (arith, c.find_gap-gap.ensures))).0 in
    omega (arith, c.find_gap-gap.ensures)

pub slice_bounds-take_around-start-else-gap-text : goal.slice_bounds-take_around-start-else-gap-text
slice_bounds-take_around-start-else-gap-text c =
    let room = (gap_parts c.args.text.now (λ z. omega (arith, c.find_gap-gap.ensures))).0 in
    omega (arith, c.find_gap-gap.ensures)

pub returns-then-gap-text : goal.returns-then-gap-text
returns-then-gap-text c =
    address_whole c.args.text.now _ c.find_gap-gap.ensures (omega arith)
    ∙ whole_read _ _ _ _ c.requires c.take_groups.ensures

pub returns-else-gap-text : goal.returns-else-gap-text
returns-else-gap-text c = address_around c.args.text.now _ c.find_gap-gap.ensures (λ z. omega arith) ∙ c.take_around.ensures
