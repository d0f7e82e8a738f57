-- `network_tables::has_route_at` meets its contract: past the last there is none.
use Rattle.network_tables.proofs.Numbers.{route_past}
use Rattle.network_tables.proofs.has_route_at.Goals as goal

pub returns-then-i-c : goal.returns-then-i-c
returns-then-i-c c = route_past _ _ c.in_ok-c.ensures _ c.if-i-c.true
