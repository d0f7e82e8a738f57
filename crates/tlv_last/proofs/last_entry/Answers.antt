-- `tlv_last::last_entry` meets its contract.
use mathlib.Core.Path.{sym, ap, ◌∙◌}
use native.Mathlib.Omega.{arith}
use Rattle.refusal.specs.Results.{found_of}
use Rattle.refusal.proofs.Papers.{passes}
use Rattle.tlv.specs.Walk.{left}
use Rattle.tlv.proofs.Tally.{counted_framed, counted_refused}
use Rattle.tlv_last.proofs.Lasts.{last_spot_of, spot_then, last_kept, last_miss, last_none}
use Rattle.tlv_last.proofs.last_entry.Goals as goal

pub returns-in_err-count_entries : goal.returns-in_err-count_entries
returns-in_err-count_entries c =
    ap found_of (passes _ _ c.from_residual.ensures.1) ∙ counted_refused _ _ _ _ _ _ c.in_err-count_entries.ensures ∙ sym (spot_then _ _ _)

pub loop-entry-init : goal.loop-entry-init
loop-entry-init c =
    ap (last_spot_of _ _) (ap left c.into_iter-entry-iterator.ensures.into_iter_gives ∙ c.entries-entry-items.ensures)
    ∙ sym (spot_then _ _ _ ∙ counted_framed _ _ _ _ c.in_ok-count_entries.ensures)

pub loop-entry-preserved-then-entry-ty : goal.loop-entry-preserved-then-entry-ty
loop-entry-preserved-then-entry-ty c =
    last_kept _ _ _ _ _ c.if-entry-ty.true (grind arith) ∙ ap (last_spot_of _ _) (sym c.in-Some.ensures.steps) ∙ c.loop-entry.invariant

pub loop-entry-preserved : goal.loop-entry-preserved
loop-entry-preserved c = sym (last_miss _ _ _ _ c.if-entry-ty.false) ∙ ap (last_spot_of _ _) (sym c.in-Some.ensures.steps) ∙ c.loop-entry.invariant

pub returns : goal.returns
returns c = sym (last_none _ _) ∙ ap (last_spot_of _ _) (sym c.in-None.ensures.steps.0) ∙ c.loop-entry.invariant
