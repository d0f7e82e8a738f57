-- `diag_rows::child_at` meets its contract.
use mathlib.Core.Path.{◌∙◌}
use native.Mathlib.Omega.{arith}
use Rattle.diag_values.proofs.Numbers.{two_spell}
use Rattle.diag_rows.proofs.child_at.Goals as goal

pub returns : goal.returns
returns c = simp (c.from_be_bytes-bits.ensures ∙ two_spell c.args.v.now c.args.at (omega arith), c.mode_of.ensures)
