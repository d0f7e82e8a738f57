-- `diag_entries::check_entry` meets its contract.
use mathlib.Core.Path.{sym, ap, ◌∙◌}
use Rattle.refusal.specs.Results.{answer_of}
use Rattle.refusal.proofs.Papers.{passes}
use Rattle.diag_rules.specs.Answers.{judged}
use Rattle.diag_entries.proofs.Checks.{network_judged, entry_other}
use Rattle.diag_entries.proofs.check_entry.Goals as goal

pub returns-in_err-check : goal.returns-in_err-check
returns-in_err-check c =
    ap answer_of (passes _ _ c.from_residual.ensures.1) ∙ network_judged _ _ _ c.if-ty-eq-NETWORK_DATA.true _ c.in_err-check.ensures

pub returns-then-ty-eq-NETWORK_DATA : goal.returns-then-ty-eq-NETWORK_DATA
returns-then-ty-eq-NETWORK_DATA c = network_judged _ _ _ c.if-ty-eq-NETWORK_DATA.true _ c.in_ok-check.ensures

pub returns : goal.returns
returns c = c.check_value.ensures ∙ ap judged (sym (entry_other _ _ _ c.if-ty-eq-NETWORK_DATA.false))
