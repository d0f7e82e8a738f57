-- `route64::route_at` meets its contract. The invariants: row `ahead` of the rows of the routers that are to come, whose bytes start at `at`, is row k of all.
use mathlib.Core.Path.{◌≡◌}
use Prim.Native.Nat.{◌+◌, ◌*◌, ◌≤◌, ◌<◌}
use lib.ListN.{length}
use Rattle.refusal.specs.Numbered.{nth}
use Rattle.diag_rules.proofs.Mask.{rest}
use Rattle.diag_rules.proofs.Bits.{to_come}
use Rattle.route64.specs.Routes.{route_rows}
use Rattle.route64.proofs.Routing.{rows_from}
use Rattle.route64.proofs.route_at.Given as goal

abbrev pub invariant-loop-j : goal.invariant-loop-j
invariant-loop-j l = (l.at + length (rest (l.j * 8) l.v) ≤ 73) × (nth (rows_from l.v (rest (l.j * 8) l.v) l.at) l.ahead ≡ nth (route_rows l.v) l.k)

abbrev pub invariant-loop-bits : goal.invariant-loop-bits
invariant-loop-bits l = (l.j < 8) × (l.bits < 256) × (l.at + length (to_come l.v l.j l.bits) ≤ 73) × (nth (rows_from l.v (to_come l.v l.j l.bits) l.at) l.ahead ≡ nth (route_rows l.v) l.k)

abbrev pub decreases-loop-bits : goal.decreases-loop-bits
decreases-loop-bits l = l.bits
