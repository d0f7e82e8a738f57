-- `route64::route64_row` meets its contract.
use mathlib.Core.List.{List}
use Prim.Native.Nat.{ℕ}
use native.Mathlib.Omega.{arith}
use Rattle.route64.specs.Routes.{route_rows}
use Rattle.refusal.specs.Numbered.{nth}
use Rattle.diag_rules.proofs.Kept.{row_kept, routes_fit_lem}
use Rattle.diag_rules.proofs.Mask.{fit_length}
use Rattle.route64.proofs.route64_row.Goals as goal

pub route_at-requires : goal.route_at-requires
route_at-requires c = omega (arith, fit_length _ (routes_fit_lem _ _ c.in_ok-check_value.ensures))

pub returns : goal.returns
returns c = row_kept (λ (v : List ℕ). nth (route_rows v) c.args.k) _ _ _ c.in_ok-check_value.ensures _ c.route_at.ensures
