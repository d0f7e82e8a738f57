-- `payload_sums::rows::child_at` meets its contract.
use mathlib.Core.Path.{ap, ◌∙◌}
use Rattle.payload_sums.specs.Sums.{or_zero}
use Rattle.payload_sums.specs.Rows.{child_sum}
use Rattle.payload_sums.proofs.rows.child_at.Goals as goal

pub returns-in-Ok-Some : goal.returns-in-Ok-Some
returns-in-Ok-Some c = c.child_sum.ensures ∙ ap (or_zero child_sum) (rw c.in-Ok-Some.field-0-is at c.in-Ok-Some.ensures)

pub returns-in-Ok-None : goal.returns-in-Ok-None
returns-in-Ok-None c = ap (or_zero child_sum) (rw c.in-Ok-None.field-0-is at c.in-Ok-None.ensures)

pub returns-in-Err : goal.returns-in-Err
returns-in-Err c = ap (or_zero child_sum) c.in-Err.ensures
