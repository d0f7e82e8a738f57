-- `network_data::checks::check_items` meets its contract. The invariant: what the walker has left is no longer than all, and
-- checking it, with c passed, gives the answer. The measure is what is left. Assumes nothing.
use borrow.Author.Rules.{rules}
use mathlib.Core.Path.{refl, sym, ap, ◌∙◌}
use native.Mathlib.Omega.{arith}
use Rattle.network_data.specs.Rules.{check_from, check_value}
use Rattle.network_framing.proofs.Walks.{turn_end, turn_cut, turn_inside}
use Rattle.network_walker.proofs.Shifts.{left_less}
use Rattle.network_data.proofs.Passes.{out_end, out_cut}
use Rattle.network_data.proofs.Moved.{items_skip, items_more, items_refused}
use Rattle.refusal.proofs.Papers.{passes}
use Rattle.network_data.proofs.checks.check_items.Goals as goal
use Rattle.network_data.proofs.checks.check_items.Goals.{then-ty-eq-NETWORK_DATA_PREFIX+in_ok-c-in-Item, else-ty-eq-NETWORK_DATA_PREFIX}
use Rattle.refusal.specs.Results.{answer_of}

pub loop-ty-init : goal.loop-ty-init
unfolding check_value
loop-ty-init c = (search rules, refl)

pub returns-in-End : goal.returns-in-End
returns-in-End c =
    sym (out_end _ _ _) ∙ ap (check_from _ _ _) (sym (turn_end _ _ _ _ c.first_tlv.ensures c.in-End.is)) ∙ c.loop-ty.invariant.1

pub returns-in-Cut : goal.returns-in-Cut
returns-in-Cut c =
    c.refuse.ensures ∙ sym (out_cut _ _ _) ∙ ap (check_from _ _ _) (sym (turn_cut _ _ _ _ c.first_tlv.ensures c.in-Cut.is)) ∙ c.loop-ty.invariant.1

pub overflow_add-value : goal.overflow_add-value
overflow_add-value c = omega (arith, turn_inside _ _ _ _ c.first_tlv.ensures _ _ _ c.in-Item.is, c.loop-ty.invariant.0)

pub slice_bounds-value-end : goal.slice_bounds-value-end
slice_bounds-value-end c = omega (arith, turn_inside _ _ _ _ c.first_tlv.ensures _ _ _ c.in-Item.is)

pub returns-in_err-c-in-Item : goal.returns-in_err-c-in-Item
returns-in_err-c-in-Item c =
    ap answer_of (passes _ _ c.from_residual.ensures.1)
    ∙ items_refused _ _ _ _ c.first_tlv.ensures _ _ _ c.in-Item.is _ refl c.if-ty-eq-NETWORK_DATA_PREFIX.true _ _ _ c.in_err-c-in-Item.ensures
    ∙ c.loop-ty.invariant.1

pub loop-ty-smaller : goal.loop-ty-smaller
loop-ty-smaller c = left_less _ _ c.first_tlv.ensures _ _ _ c.in-Item.is _ c.after_first-rest.ensures

pub loop-ty-preserved : goal.loop-ty-preserved
loop-ty-preserved c =
    let less = left_less _ _ c.first_tlv.ensures _ _ _ c.in-Item.is _ c.after_first-rest.ensures in (
      omega (arith, less, c.loop-ty.invariant.0),
      elim c.if-ty-eq-NETWORK_DATA_PREFIX.branch [
        | then-ty-eq-NETWORK_DATA_PREFIX+in_ok-c-in-Item w ↦
            rw w.c-is
            (items_more _ _ _ _ c.first_tlv.ensures _ _ _ c.in-Item.is _ c.after_first-rest.ensures w.if-ty-eq-NETWORK_DATA_PREFIX.true _ w.in_ok-c-in-Item.ensures
            ∙ c.loop-ty.invariant.1)
        | else-ty-eq-NETWORK_DATA_PREFIX w ↦
            rw w.c-is
            (items_skip _ _ _ _ c.first_tlv.ensures _ _ _ c.in-Item.is _ c.after_first-rest.ensures w.if-ty-eq-NETWORK_DATA_PREFIX.false ∙ c.loop-ty.invariant.1)
      ],
    )
