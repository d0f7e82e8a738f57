-- `route64::route64_of` meets its contract.
use mathlib.Core.Path.{sym}
use native.Mathlib.Omega.{arith}
use Rattle.laws.proofs.Parts.{part_elements}
use Rattle.route64.proofs.Routing.{routes_are}
use Rattle.route64.proofs.route64_of.Goals as goal

pub returns : goal.returns
returns c =
    routes_are _ _ _ _ c.requires.1 (sym (part_elements 8 1 c.args.v.now (omega arith))) c.route_rows.ensures (omega arith)
