-- `pairing::count_rows` meets its contract.
use mathlib.Core.Path.{refl}
use Rattle.pairing.proofs.Tallies.{counting_start, counting_more, counting_end}
use Rattle.pairing.proofs.Ids.{rows_next, rows_end}
use Rattle.pairing.proofs.count_rows.Goals as goal

pub loop-k-init : goal.loop-k-init
loop-k-init c = counting_start _

pub loop-k-preserved : goal.loop-k-preserved
loop-k-preserved c = counting_more _ _ _ _ _ _ (rows_next _ _ _ c.loop-k-test.true c.row_id.ensures.0) c.row_id.ensures.1 _ refl c.loop-k.invariant

pub returns : goal.returns
returns c = counting_end _ _ _ _ (rows_end _ _ c.loop-k-test.false) c.loop-k.invariant
