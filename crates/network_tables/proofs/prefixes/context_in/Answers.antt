-- `network_tables::prefixes::context_in` meets its contract. The invariant: the last context from the place at on, or x, is the last context.
-- The measure is what is left of the prefix. Assumes nothing.
use mathlib.Core.Path.{refl, sym, ap, ◌∙◌}
use native.Mathlib.Omega.{arith}
use Rattle.network_framing.proofs.Walks.{turn_items, turn_none, turn_inside}
use Rattle.network_data.specs.Decode.{last_context}
use Rattle.network_tables.proofs.Seeks.{context_none, context_hit, context_odd, context_miss}
use Rattle.network_tables.proofs.prefixes.context_in.Goals as goal

pub loop-ty-init : goal.loop-ty-init
loop-ty-init c = refl

pub overflow_add-at : goal.overflow_add-at
overflow_add-at c = omega (arith, turn_inside _ _ _ _ c.sub_in.ensures _ _ _ c.in-Item.is)

pub context_at-requires : goal.context_at-requires
context_at-requires c = omega (arith, turn_inside _ _ _ _ c.sub_in.ensures _ _ _ c.in-Item.is)

pub loop-ty-smaller-then-len-eq2 : goal.loop-ty-smaller-then-len-eq2
loop-ty-smaller-then-len-eq2 c = omega (arith, turn_inside _ _ _ _ c.sub_in.ensures _ _ _ c.in-Item.is)

pub loop-ty-preserved-then-len-eq2 : goal.loop-ty-preserved-then-len-eq2
loop-ty-preserved-then-len-eq2 c =
    rw c.context_at.ensures (sym (context_hit _ _ _ _ c.if-ty-eq-NETWORK_DATA_6LOWPAN_CONTEXT.true c.if-len-eq2.true) ∙ ap (last_context _ _) (sym (turn_items _ _ _ _ c.sub_in.ensures _ _ _ c.in-Item.is)) ∙ c.loop-ty.invariant)

pub loop-ty-smaller-else-len-eq2 : goal.loop-ty-smaller-else-len-eq2
loop-ty-smaller-else-len-eq2 c = omega (arith, turn_inside _ _ _ _ c.sub_in.ensures _ _ _ c.in-Item.is)

pub loop-ty-preserved-else-len-eq2 : goal.loop-ty-preserved-else-len-eq2
loop-ty-preserved-else-len-eq2 c =
    sym (context_odd _ _ _ _ c.if-ty-eq-NETWORK_DATA_6LOWPAN_CONTEXT.true c.if-len-eq2.false) ∙ ap (last_context _ _) (sym (turn_items _ _ _ _ c.sub_in.ensures _ _ _ c.in-Item.is)) ∙ c.loop-ty.invariant

pub loop-ty-smaller : goal.loop-ty-smaller
loop-ty-smaller c = omega (arith, turn_inside _ _ _ _ c.sub_in.ensures _ _ _ c.in-Item.is)

pub loop-ty-preserved : goal.loop-ty-preserved
loop-ty-preserved c =
    sym (context_miss _ _ _ _ c.if-ty-eq-NETWORK_DATA_6LOWPAN_CONTEXT.false) ∙ ap (last_context _ _) (sym (turn_items _ _ _ _ c.sub_in.ensures _ _ _ c.in-Item.is)) ∙ c.loop-ty.invariant

pub returns : goal.returns
returns c =
    sym (context_none _ _) ∙ ap (last_context _ _) (sym (turn_none _ _ _ c.sub_in.result c.sub_in.ensures c.in_default.not-Item)) ∙ c.loop-ty.invariant
