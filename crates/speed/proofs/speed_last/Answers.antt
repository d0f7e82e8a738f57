-- `speed::speed_last` meets its contract.
use mathlib.Core.Path.{ap}
use lib.ListN.{length}
use Rattle.speed.proofs.speed_last.Goals as goal

pub returns : goal.returns
returns c = ap length c.last_value.ensures
