-- `dataset::active_timestamp` meets its contract, by what its reader promises.
use mathlib.Core.Path.{refl}
use Rattle.timestamps.specs.Timestamps.{timestamp_of}
use Rattle.dataset.proofs.Finds.{query_reads}
use Rattle.dataset.proofs.active_timestamp.Goals as goal

pub returns : goal.returns
returns c = query_reads _ timestamp_of 8 (λ v p q h. h) _ 14 _ refl c.last_read.ensures
