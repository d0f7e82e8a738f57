-- `speed::speed_by_index` meets its contract.
use mathlib.Core.Path.{ap}
use lib.ListN.{length}
use Rattle.speed.proofs.speed_by_index.Goals as goal

pub returns : goal.returns
returns c = ap length c.last_value.ensures
