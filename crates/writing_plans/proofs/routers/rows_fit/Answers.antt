-- `writing_plans::routers::rows_fit` meets its contract.
use mathlib.Core.Path.{sym, ◌∙◌}
use borrow.Author.Rules.{rules}
use borrow.Author.Tests.{tests}
use lib.ListN.{take}
use Rattle.std.proofs.lemmas.Iterator.{YieldsList-from_slice}
use Rattle.std.proofs.lemmas.Iterator.Search.{all_from_yields_List}
use Rattle.value_writing.specs.Fits.{route_row_fits}
use Rattle.writing_plans.proofs.Picks.{all_listed}
use Rattle.writing_plans.proofs.routers.rows_fit.Goals as goal

pub returns : goal.returns
returns c =
    all_from_yields_List route_row_fits _ _ _ c.all.ensures.ran (YieldsList-from_slice (take c.args.t.count c.args.t.route_data) cc) (λ x b q k. search (rules, tests)) ∙ sym (all_listed route_row_fits _)
