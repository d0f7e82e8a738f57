-- `diag_values::ModeData::decode` meets its contract.
use native.Mathlib.Omega.{arith}
use Rattle.diag_values.specs.Values.{mode_value}
use Rattle.diag_rules.proofs.Kept.{read_kept, mode_size}
use Rattle.diag_values.proofs.ModeData.decode.Goals as goal

pub bounds-value-0 : goal.bounds-value-0
bounds-value-0 c = omega (arith, mode_size _ _ c.in_ok-check_value.ensures)

pub returns : goal.returns
returns c = read_kept mode_value _ _ _ c.in_ok-check_value.ensures _ c.mode_of.ensures
