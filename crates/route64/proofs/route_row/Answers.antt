-- `route64::route_row` meets its contract: each field is its bits. Assumes nothing.
use mathlib.Core.Path.{refl}
use Rattle.route64.proofs.route_row.Goals as goal

pub returns : goal.returns
returns c = refl
