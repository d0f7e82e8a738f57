-- `diag_rules::count_routers` meets its contract. The invariant: n and the routers of the mask bytes from the index on are all the routers.
use mathlib.Core.Path.{◌≡◌}
use Prim.Native.Nat.{◌+◌, ◌*◌}
use lib.ListN.{length}
use Rattle.diag_rules.specs.Mask.{routers_of}
use Rattle.diag_rules.proofs.Mask.{rest}
use Rattle.diag_rules.proofs.count_routers.Given as goal

abbrev pub invariant-loop-b : goal.invariant-loop-b
invariant-loop-b l = l.n + length (rest (l.b-index * 8) l.v) ≡ length (routers_of l.v)
