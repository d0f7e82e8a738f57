-- `diag_writing::checks::children_fit` meets its contract.
use mathlib.Core.Path.{sym, ◌∙◌}
use borrow.Author.Rules.{rules}
use borrow.Author.Tests.{tests}
use Rattle.std.proofs.lemmas.Iterator.{YieldsList-from_slice}
use Rattle.std.proofs.lemmas.Iterator.Search.{all_from_yields_List}
use Rattle.value_writing.specs.Fits.{child_fits}
use Rattle.writing_plans.proofs.Picks.{all_listed}
use Rattle.diag_writing.proofs.checks.children_fit.Goals as goal

pub returns : goal.returns
returns c =
    all_from_yields_List child_fits _ _ _ c.all.ensures.ran (YieldsList-from_slice c.args.table.now cc) (λ x b q k. search (rules, tests)) ∙ sym (all_listed child_fits _)
