-- `diag_entries::check_values` meets its contract.
use mathlib.Core.Path.{sym, ap, ◌∙◌}
use Rattle.refusal.specs.Results.{answer_of}
use Rattle.refusal.proofs.Papers.{passes}
use Rattle.tlv.specs.Walk.{left}
use Rattle.diag_entries.proofs.Checks.{verdict, verdict_next, verdict_stop, verdict_end, check_start, check_refused}
use Rattle.diag_entries.proofs.check_values.Goals as goal

pub returns-in_err-n : goal.returns-in_err-n
returns-in_err-n c = ap answer_of (passes _ _ c.from_residual.ensures.1) ∙ check_refused _ _ _ _ c.in_err-n.ensures

pub loop-entry-init : goal.loop-entry-init
loop-entry-init c =
    ap (verdict _) (ap left c.into_iter-entry-iterator.ensures.into_iter_gives ∙ c.entries-entry-items.ensures) ∙ check_start _ _ c.in_ok-n.ensures

pub returns-in_err-check_entry : goal.returns-in_err-check_entry
returns-in_err-check_entry c =
    ap answer_of (passes _ _ c.from_residual-in_err-check_entry.ensures.1)
    ∙ sym (verdict_stop _ _ _ _ c.in-Some.ensures.steps _ _ _ c.in_err-check_entry.ensures) ∙ c.loop-entry.invariant

pub loop-entry-preserved : goal.loop-entry-preserved
loop-entry-preserved c = sym (verdict_next _ _ _ _ c.in-Some.ensures.steps c.in_ok-check_entry.ensures) ∙ c.loop-entry.invariant

pub returns : goal.returns
returns c = sym (verdict_end _ _ c.in-None.ensures.steps.0) ∙ c.loop-entry.invariant
