-- `network_tables::prefixes::find_prefix` meets its contract. The invariant: the first prefix from the place at on is the first prefix.
-- The measure is what is left of the value. Assumes nothing.
use mathlib.Core.Path.{refl, sym, ap, ◌∙◌}
use native.Mathlib.Omega.{arith}
use Rattle.network_framing.proofs.Walks.{turn_items, turn_none, turn_inside}
use Rattle.network_tables.specs.Cursor.{span_of}
use Rattle.network_tables.proofs.Seeks.{span_none, span_hit, span_miss}
use Rattle.network_tables.proofs.prefixes.find_prefix.Goals as goal

pub loop-ty-init : goal.loop-ty-init
loop-ty-init c = refl

pub overflow_add-at : goal.overflow_add-at
overflow_add-at c = omega (arith, turn_inside _ _ _ _ c.sub_at.ensures _ _ _ c.in-Item.is)

pub returns-then-ty-eq-NETWORK_DATA_PREFIX : goal.returns-then-ty-eq-NETWORK_DATA_PREFIX
returns-then-ty-eq-NETWORK_DATA_PREFIX c =
    sym (span_hit _ _ c.if-ty-eq-NETWORK_DATA_PREFIX.true) ∙ ap span_of (sym (turn_items _ _ _ _ c.sub_at.ensures _ _ _ c.in-Item.is)) ∙ c.loop-ty.invariant

pub loop-ty-smaller : goal.loop-ty-smaller
loop-ty-smaller c = omega (arith, turn_inside _ _ _ _ c.sub_at.ensures _ _ _ c.in-Item.is)

pub loop-ty-preserved : goal.loop-ty-preserved
loop-ty-preserved c =
    sym (span_miss _ _ c.if-ty-eq-NETWORK_DATA_PREFIX.false) ∙ ap span_of (sym (turn_items _ _ _ _ c.sub_at.ensures _ _ _ c.in-Item.is)) ∙ c.loop-ty.invariant

pub returns : goal.returns
returns c = sym span_none ∙ ap span_of (sym (turn_none _ _ _ c.sub_at.result c.sub_at.ensures c.in_default.not-Item)) ∙ c.loop-ty.invariant
