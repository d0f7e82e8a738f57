-- `dataset::pan_id` meets its contract, by what its reader promises.
use mathlib.Core.Path.{refl}
use Rattle.wire.specs.Be.{be, fixed}
use Rattle.dataset.proofs.Finds.{query_reads}
use Rattle.dataset.proofs.pan_id.Goals as goal

pub returns : goal.returns
unfolding fixed
returns c = query_reads _ be 2 (λ v p q h. h) _ 1 _ refl c.last_read.ensures
