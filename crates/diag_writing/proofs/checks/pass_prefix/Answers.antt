-- `diag_writing::checks::pass_prefix` meets its contract.
use mathlib.Core.Path.{sym, ◌∙◌}
use native.Mathlib.Omega.{arith}
use Rattle.diag_writing.proofs.TableChecks.{entry_fits_lem}
use Rattle.diag_writing.proofs.checks.pass_prefix.Goals as goal

pub overflow_add-result : goal.overflow_add-result
overflow_add-result c =
    let x = entry_fits_lem c.args.e (sym c.entry_fits.ensures ∙ c.if-entry_fits.true) in
    omega (arith, x.0, c.if-f-le-MAX_HAS_ROUTES.true)

pub overflow_add-result-then-entry_fits : goal.overflow_add-result-then-entry_fits
overflow_add-result-then-entry_fits c =
    let x = entry_fits_lem c.args.e (sym c.entry_fits.ensures ∙ c.if-entry_fits.true) in
    omega (arith, x.1, c.if-f-le-MAX_BORDER_ROUTERS.true)

pub value_size-requires : goal.value_size-requires
value_size-requires c =
    let x = entry_fits_lem c.args.e (sym c.entry_fits.ensures ∙ c.if-entry_fits.true) in
    (x.0, x.1)
