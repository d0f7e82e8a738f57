-- `route64::decode_route64` meets its contract.
use mathlib.Core.Path.{sym, ◌∙◌}
use mathlib.Core.List.{List}
use Prim.Native.Nat.{ℕ}
use native.Mathlib.Omega.{arith}
use Rattle.laws.proofs.Answers.{on_on}
use Rattle.diag_rules.proofs.Kept.{read_kept, routes_fit_lem}
use Rattle.diag_rules.proofs.Mask.{fit_length}
use Rattle.route64.specs.Routes.{routes, route_of}
use Rattle.route64.proofs.decode_route64.Goals as goal

pub route64_of-requires : goal.route64_of-requires
route64_of-requires c =
    let fit = routes_fit_lem _ _ c.in_ok-check_value.ensures in
    (omega (arith, fit_length _ fit), fit)

pub returns : goal.returns
returns c = read_kept (λ (v : List ℕ). routes (route_of v)) _ _ _ c.in_ok-check_value.ensures _ c.route64_of.ensures ∙ sym (on_on routes route_of _)
