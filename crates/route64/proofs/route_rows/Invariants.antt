-- `route64::route_rows` meets its contract. The invariants: what is laid, with the rows of the routers that are to come, is the whole table.
use Prim.Native.Nat.{◌*◌, ◌<◌}
use Rattle.diag_rules.proofs.Mask.{rest}
use Rattle.diag_rules.proofs.Bits.{to_come}
use Rattle.route64.proofs.Routing.{Laying}
use Rattle.route64.proofs.route_rows.Given as goal

abbrev pub invariant-loop-j : goal.invariant-loop-j
invariant-loop-j l = Laying l.v l.rows l.n (rest (l.j * 8) l.v)

abbrev pub invariant-loop-left : goal.invariant-loop-left
invariant-loop-left l = (l.j < 8) × (l.left < 256) × Laying l.v l.rows l.n (to_come l.v l.j l.left)

abbrev pub decreases-loop-left : goal.decreases-loop-left
decreases-loop-left l = l.left
