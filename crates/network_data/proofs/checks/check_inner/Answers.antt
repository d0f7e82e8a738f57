-- `network_data::checks::check_inner` meets its contract. The invariant: checking what the walker has left, with c passed, gives the answer.
-- The measure is what is left. Assumes nothing.
use mathlib.Core.Path.{refl, sym, ap, ◌∙◌}
use Rattle.network_data.specs.Rules.{check_in}
use Rattle.network_framing.proofs.Walks.{turn_end, turn_cut}
use Rattle.network_walker.proofs.Shifts.{left_less}
use Rattle.network_data.proofs.Passes.{in_end, in_cut}
use Rattle.network_data.proofs.Moved.{inner_more, inner_refused}
use Rattle.refusal.proofs.Papers.{passes}
use Rattle.network_data.proofs.checks.check_inner.Goals as goal
use Rattle.refusal.specs.Results.{answer_of}

pub loop-ty-init : goal.loop-ty-init
loop-ty-init c = refl

pub returns-in-End : goal.returns-in-End
returns-in-End c = sym (in_end _ _) ∙ ap (check_in _ _) (sym (turn_end _ _ _ _ c.first_tlv.ensures c.in-End.is)) ∙ c.loop-ty.invariant

pub returns-in-Cut : goal.returns-in-Cut
returns-in-Cut c =
    c.refuse.ensures ∙ sym (in_cut _ _) ∙ ap (check_in _ _) (sym (turn_cut _ _ _ _ c.first_tlv.ensures c.in-Cut.is)) ∙ c.loop-ty.invariant

pub loop-ty-smaller : goal.loop-ty-smaller
loop-ty-smaller c = left_less _ _ c.first_tlv.ensures _ _ _ c.in-Item.is _ c.after_first-rest.ensures

pub loop-ty-preserved : goal.loop-ty-preserved
loop-ty-preserved c =
    inner_more _ _ _ _ c.first_tlv.ensures _ _ _ c.in-Item.is _ c.after_first-rest.ensures _ c.in_ok-c-in-Item.ensures ∙ c.loop-ty.invariant

pub returns-in_err-c-in-Item : goal.returns-in_err-c-in-Item
returns-in_err-c-in-Item c =
    ap answer_of (passes _ _ c.from_residual.ensures.1)
    ∙ inner_refused _ _ _ _ c.first_tlv.ensures _ _ _ c.in-Item.is _ refl _ _ _ c.in_err-c-in-Item.ensures
    ∙ c.loop-ty.invariant
