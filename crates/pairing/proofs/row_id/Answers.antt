-- `pairing::row_id` meets its contract, by what `child_row` answered.
use native.Mathlib.Omega.{arith}
use Rattle.pairing.proofs.Ids.{row_id_by, row_id_low}
use Rattle.pairing.proofs.row_id.Goals as goal

pub returns-in-Ok-Some : goal.returns-in-Ok-Some
returns-in-Ok-Some c =
    let told = rw c.in-Ok-Some.field-0-is at c.in-Ok-Some.ensures in
    (row_id_by _ _ _ told, row_id_low _ _ _ told)

pub returns-in-Ok-None : goal.returns-in-Ok-None
returns-in-Ok-None c = (row_id_by _ _ _ (rw c.in-Ok-None.field-0-is at c.in-Ok-None.ensures), omega arith)

pub returns-in-Err : goal.returns-in-Err
returns-in-Err c = (row_id_by _ _ _ c.in-Err.ensures, omega arith)
