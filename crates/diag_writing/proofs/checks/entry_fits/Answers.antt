-- `diag_writing::checks::entry_fits` meets its contract.
use Rattle.std.proofs.Common.{arith}
use Rattle.std.proofs.lemmas.Grind.{common_steps}
use borrow.Author.Tests.{eq-eqb}
use Rattle.diag_writing.specs.Checks.{entry_fits}
use Rattle.diag_writing.proofs.PrefixParts.{front_full}
use Rattle.diag_writing.proofs.checks.entry_fits.Goals as goal

pub returns-then-context_fits : goal.returns-then-context_fits
unfolding entry_fits
returns-then-context_fits c =
    let held = eq-eqb _ _ (front_full c.args.e _ c.well_formed.0) in
    grind (arith, common_steps)

pub returns-else-context_fits : goal.returns-else-context_fits
unfolding entry_fits
returns-else-context_fits c =
    let held = eq-eqb _ _ (front_full c.args.e _ c.well_formed.0) in
    grind (arith, common_steps)
