-- `dataset::delay_timer` meets its contract, by what its reader promises.
use mathlib.Core.Path.{refl}
use Rattle.wire.specs.Be.{be, fixed}
use Rattle.dataset.proofs.Finds.{query_reads}
use Rattle.dataset.proofs.delay_timer.Goals as goal

pub returns : goal.returns
unfolding fixed
returns c = query_reads _ be 4 (λ v p q h. h) _ 52 _ refl c.last_read.ensures
