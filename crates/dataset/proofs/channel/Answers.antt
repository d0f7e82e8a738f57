-- `dataset::channel` meets its contract, by what its reader promises.
use mathlib.Core.Path.{refl}
use Rattle.values.specs.Typed.{channel_of}
use Rattle.dataset.proofs.Finds.{query_reads}
use Rattle.dataset.proofs.channel.Goals as goal

pub returns : goal.returns
returns c = query_reads _ channel_of 3 (λ v p q h. h) _ 0 _ refl c.last_read.ensures
