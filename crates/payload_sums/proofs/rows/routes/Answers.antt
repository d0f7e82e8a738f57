-- `payload_sums::rows::routes` meets its contract.
use mathlib.Core.Path.{ap, ◌∙◌}
use Rattle.payload_sums.specs.Rows.{route64_sum}
use Rattle.payload_sums.proofs.Routed.{route_read, read_counted}
use Rattle.payload_sums.proofs.rows.routes.Goals as goal

pub route64_sum-requires : goal.route64_sum-requires
route64_sum-requires c = read_counted _ _ (route_read _ _ c.decode_route64.ensures _ c.unwrap_or_default.ensures)

pub returns : goal.returns
returns c = c.route64_sum.ensures ∙ ap route64_sum (route_read _ _ c.decode_route64.ensures _ c.unwrap_or_default.ensures)
