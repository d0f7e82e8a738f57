-- `diag_writing::rows::put_border` meets its contract: its bytes are stored one by one.
use native.Mathlib.Omega.{arith}
use lib.ListN.{length-set}
use Rattle.network_writing.proofs.Rows.{border_size}
use Rattle.diag_writing.proofs.Wrote.{border_wrote}
use Rattle.diag_writing.proofs.rows.put_border.Goals as goal

pub bounds-out-at : goal.bounds-out-at
bounds-out-at c = omega (arith, border_size c.args.b)

pub bounds-out-at-2 : goal.bounds-out-at-2
bounds-out-at-2 c = simp length-set (omega (arith, border_size c.args.b))

pub bounds-out-at-3 : goal.bounds-out-at-3
bounds-out-at-3 c = simp length-set (omega (arith, border_size c.args.b))

pub bounds-out-at-4 : goal.bounds-out-at-4
bounds-out-at-4 c = simp length-set (omega (arith, border_size c.args.b))

pub returns : goal.returns
returns c = border_wrote _ _ _ _ _ c.border_flags.ensures c.more_flags.ensures
