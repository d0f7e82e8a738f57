-- `diag_writing::checks::routes_fit` meets its contract.
use mathlib.Core.Path.{sym, ◌∙◌}
use borrow.Author.Rules.{rules}
use borrow.Author.Tests.{tests}
use Rattle.std.proofs.lemmas.Iterator.{YieldsList-from_slice}
use Rattle.std.proofs.lemmas.Iterator.Search.{all_from_yields_List}
use Rattle.network_writing.specs.Fits.{route_fits}
use Rattle.writing_plans.proofs.Picks.{all_listed}
use Rattle.diag_writing.proofs.checks.routes_fit.Goals as goal

pub returns : goal.returns
returns c =
    all_from_yields_List route_fits _ _ _ c.all.ensures.ran (YieldsList-from_slice c.args.table.now cc) (λ x b q k. search (rules, tests)) ∙ sym (all_listed route_fits _)
