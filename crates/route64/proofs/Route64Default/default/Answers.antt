-- `route64::Route64::default` meets its contract.
use Rattle.route64.specs.Routes.{zero_routes, table}
use Rattle.route64.proofs.Route64Default.default.Goals as goal

pub returns : goal.returns
unfolding zero_routes table
returns c = rw c.route_row.ensures
