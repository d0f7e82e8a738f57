-- `address_reading::take_around` meets its contract.
use mathlib.Core.Path.{ap, ◌∙◌}
use native.Mathlib.Omega.{arith}
use lib.ListN.{length}
use Rattle.address_reading.specs.Loops.{of_eight}
use Rattle.address_reading.proofs.Counts.{sides_not}
use Rattle.address_reading.proofs.Laid.{sides_read}
use Rattle.address_reading.proofs.take_around.Goals as goal

pub take_groups-l-requires : goal.take_groups-l-requires
take_groups-l-requires c = omega (arith, ap length c.requires)

pub returns-then-l-gt7 : goal.returns-then-l-gt7
unfolding of_eight
returns-then-l-gt7 c = sides_not _ _ (omega (arith, c.take_groups-l.ensures.counts))

pub returns-then-r-l : goal.returns-then-r-l
unfolding of_eight
returns-then-r-l c = sides_not _ _ (omega (arith, c.take_groups-l.ensures.counts, c.take_groups-r.ensures.counts))

pub returns : goal.returns
unfolding of_eight
returns c =
    let long = c.take_groups-l.auto.out ∙ ap length c.requires in
    sides_read _ _ _ _ _ _ _ c.requires c.take_groups-l.ensures c.take_groups-r.ensures (omega arith) _ _ _ (omega arith) long c.put_bytes.ensures
