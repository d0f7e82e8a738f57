-- `address_reading::end_group` meets its contract.
use native.Mathlib.Omega.{arith}
use Rattle.address_reading.proofs.Turns.{ended_empty, ended_full, ended_stored}
use Rattle.address_reading.proofs.end_group.Goals as goal

pub returns-then-n-eq0 : goal.returns-then-n-eq0
returns-then-n-eq0 c = ended_empty _ _ _ _ (omega arith)

pub returns-then-count-gt7 : goal.returns-then-count-gt7
returns-then-count-gt7 c = ended_full _ _ _ _ (λ z. omega arith) (omega arith)

pub returns : goal.returns
returns c = ended_stored _ _ _ _ (λ z. omega arith) (omega arith) _ c.put_group.ensures
