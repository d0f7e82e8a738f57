-- `diag_writing::rows::put_child` meets its contract: its bytes are stored one by one.
use native.Mathlib.Omega.{arith}
use lib.ListN.{length-set}
use Rattle.value_writing.proofs.Round.{child_size}
use Rattle.diag_writing.proofs.Wrote.{child_wrote}
use Rattle.diag_writing.proofs.rows.put_child.Goals as goal

pub bounds-out-at : goal.bounds-out-at
bounds-out-at c = omega (arith, child_size c.args.c)

pub bounds-out-at-2 : goal.bounds-out-at-2
bounds-out-at-2 c = simp length-set (omega (arith, child_size c.args.c))

pub bounds-out-at-3 : goal.bounds-out-at-3
bounds-out-at-3 c = simp length-set (omega (arith, child_size c.args.c))

pub returns : goal.returns
returns c = child_wrote _ _ _ _ c.child_bytes-b.ensures
