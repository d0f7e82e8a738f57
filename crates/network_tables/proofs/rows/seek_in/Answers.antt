-- `network_tables::rows::seek_in` meets its contract. The invariant: the first row from the place at on is the first row.
-- The measure is what is left of the prefix. Assumes nothing.
use mathlib.Core.Path.{refl, sym, ap, ◌∙◌}
use native.Mathlib.Omega.{arith}
use Rattle.network_framing.proofs.Walks.{turn_items, turn_none, turn_inside}
use Rattle.network_tables.specs.Cursor.{rows_in}
use Rattle.network_tables.proofs.Seeks.{in_empty, in_miss, in_hit, in_none}
use Rattle.network_tables.proofs.rows.seek_in.Goals as goal

pub loop-t-init : goal.loop-t-init
loop-t-init c = refl

pub overflow_add-at : goal.overflow_add-at
overflow_add-at c = omega (arith, turn_inside _ _ _ _ c.sub_in.ensures _ _ _ c.in-Item.is)

pub returns-then-n-gt0 : goal.returns-then-n-gt0
returns-then-n-gt0 c =
    sym (in_hit _ _ _ _ _ c.if-t-ty.true c.if-n-gt0.true) ∙ ap (rows_in _ _ _) (sym (turn_items _ _ _ _ c.sub_in.ensures _ _ _ c.in-Item.is)) ∙ c.loop-t.invariant

pub loop-t-smaller-else-n-gt0 : goal.loop-t-smaller-else-n-gt0
loop-t-smaller-else-n-gt0 c = omega (arith, turn_inside _ _ _ _ c.sub_in.ensures _ _ _ c.in-Item.is)

pub loop-t-preserved-else-n-gt0 : goal.loop-t-preserved-else-n-gt0
loop-t-preserved-else-n-gt0 c =
    sym (in_none _ _ _ _ _ c.if-t-ty.true c.if-n-gt0.false) ∙ ap (rows_in _ _ _) (sym (turn_items _ _ _ _ c.sub_in.ensures _ _ _ c.in-Item.is)) ∙ c.loop-t.invariant

pub loop-t-smaller : goal.loop-t-smaller
loop-t-smaller c = omega (arith, turn_inside _ _ _ _ c.sub_in.ensures _ _ _ c.in-Item.is)

pub loop-t-preserved : goal.loop-t-preserved
loop-t-preserved c =
    sym (in_miss _ _ _ _ _ c.if-t-ty.false) ∙ ap (rows_in _ _ _) (sym (turn_items _ _ _ _ c.sub_in.ensures _ _ _ c.in-Item.is)) ∙ c.loop-t.invariant

pub returns : goal.returns
returns c =
    c.no_rows.ensures ∙ sym (in_empty _ _ _) ∙ ap (rows_in _ _ _) (sym (turn_none _ _ _ c.sub_in.result c.sub_in.ensures c.in_default.not-Item)) ∙ c.loop-t.invariant
