-- `diag_writing::rows::put_route` meets its contract: its bytes are stored one by one.
use native.Mathlib.Omega.{arith}
use lib.ListN.{length-set}
use Rattle.network_writing.proofs.Rows.{route_size}
use Rattle.diag_writing.proofs.Wrote.{route_wrote}
use Rattle.diag_writing.proofs.rows.put_route.Goals as goal

pub bounds-out-at : goal.bounds-out-at
bounds-out-at c = omega (arith, route_size c.args.h)

pub bounds-out-at-2 : goal.bounds-out-at-2
bounds-out-at-2 c = simp length-set (omega (arith, route_size c.args.h))

pub bounds-out-at-3 : goal.bounds-out-at-3
bounds-out-at-3 c = simp length-set (omega (arith, route_size c.args.h))

pub returns : goal.returns
returns c = route_wrote _ _ _ _ c.weight.ensures.0
