-- `network_tables::rows::seek_out` meets its contract. The invariant: the first row from the place at on is the first row.
-- The measure is what is left of the value. Assumes nothing.
use borrow.Author.Rules.{rules}
use mathlib.Core.Path.{refl, sym, ap, ◌∙◌}
use native.Mathlib.Omega.{arith}
use Rattle.network_framing.proofs.Walks.{turn_items, turn_none, turn_inside}
use Rattle.network_tables.specs.Cursor.{rows_out}
use Rattle.network_tables.proofs.Seeks.{out_empty, seek_miss, seek_hit, seek_none}
use Rattle.network_tables.proofs.rows.seek_out.Goals as goal

pub loop-t-init : goal.loop-t-init
loop-t-init c = refl

pub overflow_add-at : goal.overflow_add-at
overflow_add-at c = omega (arith, turn_inside _ _ _ _ c.sub_at.ensures _ _ _ c.in-Item.is)

pub seek_prefix-c-requires : goal.seek_prefix-c-requires
seek_prefix-c-requires c =
    let inside = turn_inside _ _ _ _ c.sub_at.ensures _ _ _ c.in-Item.is in
    (omega arith, search rules)

pub returns-then-c-gt0 : goal.returns-then-c-gt0
returns-then-c-gt0 c =
    sym (seek_hit _ _ _ _ _ c.if-t-eq-NETWORK_DATA_PREFIX.true _ c.seek_prefix-c.ensures c.if-c-gt0.true) ∙ ap (rows_out _ _ _) (sym (turn_items _ _ _ _ c.sub_at.ensures _ _ _ c.in-Item.is)) ∙ c.loop-t.invariant

pub loop-t-smaller-else-c-gt0 : goal.loop-t-smaller-else-c-gt0
loop-t-smaller-else-c-gt0 c = omega (arith, turn_inside _ _ _ _ c.sub_at.ensures _ _ _ c.in-Item.is)

pub loop-t-preserved-else-c-gt0 : goal.loop-t-preserved-else-c-gt0
loop-t-preserved-else-c-gt0 c =
    sym (seek_none _ _ _ _ _ c.if-t-eq-NETWORK_DATA_PREFIX.true _ c.seek_prefix-c.ensures c.if-c-gt0.false) ∙ ap (rows_out _ _ _) (sym (turn_items _ _ _ _ c.sub_at.ensures _ _ _ c.in-Item.is)) ∙ c.loop-t.invariant

pub loop-t-smaller : goal.loop-t-smaller
loop-t-smaller c = omega (arith, turn_inside _ _ _ _ c.sub_at.ensures _ _ _ c.in-Item.is)

pub loop-t-preserved : goal.loop-t-preserved
loop-t-preserved c =
    sym (seek_miss _ _ _ _ _ c.if-t-eq-NETWORK_DATA_PREFIX.false) ∙ ap (rows_out _ _ _) (sym (turn_items _ _ _ _ c.sub_at.ensures _ _ _ c.in-Item.is)) ∙ c.loop-t.invariant

pub returns : goal.returns
returns c =
    c.no_rows.ensures ∙ sym (out_empty _ _ _) ∙ ap (rows_out _ _ _) (sym (turn_none _ _ _ c.sub_at.result c.sub_at.ensures c.in_default.not-Item)) ∙ c.loop-t.invariant
