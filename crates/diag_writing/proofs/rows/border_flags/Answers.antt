-- `diag_writing::rows::border_flags` meets its contract.
use native.Mathlib.Omega.{arith}
use Rattle.diag_writing.proofs.rows.border_flags.Goals as goal

pub returns : goal.returns
returns c =
    omega (arith, c.weight-6.ensures.0, c.weight-5.ensures.0, c.weight-4.ensures.0, c.weight-3.ensures.0, c.weight-2.ensures.0, c.weight.ensures.0)
