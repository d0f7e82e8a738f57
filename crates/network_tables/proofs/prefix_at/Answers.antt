-- `network_tables::prefix_at` meets its contract: past the last there is none.
use Rattle.network_tables.proofs.Numbers.{prefix_past}
use Rattle.network_tables.proofs.prefix_at.Goals as goal

pub returns-then-i-c : goal.returns-then-i-c
returns-then-i-c c = prefix_past _ _ c.in_ok-c.ensures _ c.if-i-c.true
