-- `network_tables::border_router_at` meets its contract: past the last there is none.
use Rattle.network_tables.proofs.Numbers.{border_past}
use Rattle.network_tables.proofs.border_router_at.Goals as goal

pub returns-then-i-c : goal.returns-then-i-c
returns-then-i-c c = border_past _ _ c.in_ok-c.ensures _ c.if-i-c.true
