-- `network_tables::prefixes::rows_in` meets its contract. The invariant: the rows counted and those from the place at on are all rows.
-- The measure is what is left of the prefix. Assumes nothing.
use borrow.Author.Rules.{rules}
use mathlib.Core.Path.{ap, ◌∙◌}
use native.Mathlib.Omega.{arith}
use lib.ListN.{length}
use Rattle.network_framing.specs.Tlvs.{Piece}
use Rattle.network_framing.proofs.Walks.{turn_items, turn_none, turn_inside}
use native.Mathlib.Nat.{div-le_self, zero-add}
use Rattle.network_data.specs.Decode.{places_in}
use Rattle.network_tables.proofs.Seeks.{rows_none, rows_more, rows_same}
use mathlib.Core.List.{List}
use Rattle.network_tables.proofs.prefixes.rows_in.Goals as goal

pub loop-t-init : goal.loop-t-init
loop-t-init c = (search rules, rw zero-add)

pub overflow_add-at : goal.overflow_add-at
overflow_add-at c = omega (arith, turn_inside _ _ _ _ c.sub_in.ensures _ _ _ c.in-Item.is)

pub overflow_add-sum : goal.overflow_add-sum
overflow_add-sum c = omega (arith, turn_inside _ _ _ _ c.sub_in.ensures _ _ _ c.in-Item.is, div-le_self c.in-Item.len c.args.size)

pub loop-t-smaller-then-t-ty : goal.loop-t-smaller-then-t-ty
loop-t-smaller-then-t-ty c = omega (arith, turn_inside _ _ _ _ c.sub_in.ensures _ _ _ c.in-Item.is)

pub loop-t-preserved-then-t-ty : goal.loop-t-preserved-then-t-ty
loop-t-preserved-then-t-ty c =
    let a = c.args in
    let inside = turn_inside _ _ _ _ c.sub_in.ensures _ _ _ c.in-Item.is in
    let one = ap (λ (l : List Piece). length (places_in a.ty a.size l)) (turn_items _ _ _ _ c.sub_in.ensures _ _ _ c.in-Item.is) ∙ rows_more a.ty a.size _ _ c.if-t-ty.true in
    (omega (arith, div-le_self c.in-Item.len a.size), omega (arith, c.loop-t.invariant.1))

pub loop-t-smaller : goal.loop-t-smaller
loop-t-smaller c = omega (arith, turn_inside _ _ _ _ c.sub_in.ensures _ _ _ c.in-Item.is)

pub loop-t-preserved : goal.loop-t-preserved
loop-t-preserved c =
    let a = c.args in
    let inside = turn_inside _ _ _ _ c.sub_in.ensures _ _ _ c.in-Item.is in
    let one = ap (λ (l : List Piece). length (places_in a.ty a.size l)) (turn_items _ _ _ _ c.sub_in.ensures _ _ _ c.in-Item.is) ∙ rows_same a.ty a.size _ _ c.if-t-ty.false in
    (omega arith, omega (arith, c.loop-t.invariant.1))

pub returns : goal.returns
returns c =
    let a = c.args in
    let one = ap (λ (l : List Piece). length (places_in a.ty a.size l)) (turn_none _ _ _ c.sub_in.result c.sub_in.ensures c.in_default.not-Item) ∙ rows_none a.ty a.size in
    omega (arith, c.loop-t.invariant.1)
