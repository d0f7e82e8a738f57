-- `diag_values::read_u8` meets its contract.
use mathlib.Core.Path.{refl}
use mathlib.Core.List.{List}
use Prim.Native.Nat.{ℕ}
use native.Mathlib.Omega.{arith}
use Rattle.diag_rules.specs.Mask.{byte_at}
use Rattle.diag_rules.proofs.Kept.{read_kept, battery_size}
use Rattle.diag_values.proofs.read_u8.Goals as goal

pub bounds-value-0 : goal.bounds-value-0
bounds-value-0 c = omega (arith, battery_size _ _ c.in_ok-check_value.ensures)

pub returns : goal.returns
returns c = read_kept (λ (v : List ℕ). byte_at v 0) _ _ _ c.in_ok-check_value.ensures _ refl
