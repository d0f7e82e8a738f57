-- `diag::NetDiagData::decode` meets its contract, by what the check of the payload answered.
use mathlib.Core.Path.{sym, ap, ◌∙◌}
use Rattle.refusal.specs.Answer.{given, on_given}
use Rattle.refusal.proofs.Papers.{passes}
use Rattle.diag.specs.Diag.{diag, decode}
use Rattle.diag_entries.proofs.Checks.{checked_given, checked_refused}
use Rattle.diag.proofs.Whole.{collected_is}
use Rattle.diag.proofs.NetDiagData.decode.Goals as goal

pub returns-in_err-check_values : goal.returns-in_err-check_values
unfolding decode
returns-in_err-check_values c = rw (passes _ _ c.from_residual.ensures.1, checked_refused _ _ _ _ c.in_err-check_values.ensures)

pub returns : goal.returns
unfolding decode
returns c =
    let fine = checked_given _ _ c.in_ok-check_values.ensures in
    ap given (c.collect.ensures ∙ collected_is _ fine.1) ∙ ap (on_given diag) (sym fine.0)
