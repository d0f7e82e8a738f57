-- The list printer and the item printer meet their contracts: an item by what it holds, and a list by what stands at its place.
-- Assumes nothing.
use mathlib.Core.Path.{◌≡◌, refl, sym, ap, ◌∙◌, subst}
use mathlib.Core.List.{List}
use Prim.Native.Nat.{ℕ, ◌≤◌}
use native.Mathlib.Omega.{arith}
use native.Mathlib.Nat.{add-sub_cancel_left}
use lib.ListN.{length}
use borrow.Author.Rules.{rules}
use Rattle.text_writing.specs.Laid.{laid}
use Rattle.text_writing.proofs.Lays.{laid_length, laid_rest, laid_none}
use Rattle.nested_listing.specs.Levels.{Opens}
use Rattle.nested_listing.specs.declared.Held.{Held}
use Rattle.nested_listing.specs.declared.Held.TheVariants as h
use Rattle.nested_listing.proofs.Turns.{text_start, turn_inside, turn_text, cut_text, end_text, item_list, item_cut, item_plain}
use Rattle.nested_listing.proofs.+put_item_put_list.Goals as goal

-- where an item holds a list that is to be printed
opens : (k : ℕ) (v : List ℕ) (x : Held) (a : ℕ) → Opens k v x → x ≡ h.List a → (2 ≤ k) × (a ≤ length v)
opens k v x a o is = subst (Opens k v) is o

pub put_item-put_list-requires : goal.put_item-put_list-requires
put_item-put_list-requires t c =
    let o = opens _ _ _ _ c.holds.ensures.1 c.in-List.is in
    (omega (arith, o), (omega (arith, o), omega arith))

pub put_item-returns-in-List : goal.put_item-returns-in-List
put_item-returns-in-List t c =
    let o = opens _ _ _ _ c.holds.ensures.1 c.in-List.is in
    let held = (rw c.in-List.is at c.holds.ensures).0 in
    c.put_list.ensures ∙ laid_rest _ _ _ _ _ c.put_item_line-next.ensures _ ∙ ap (laid _ _) (item_list _ _ _ c.in-List.start o.0 c.requires.1 held)

pub put_item-returns-in-Cut : goal.put_item-returns-in-Cut
put_item-returns-in-Cut t c =
    let held = (rw c.in-Cut.is at c.holds.ensures).0 in
    c.put_cut_line.ensures ∙ laid_rest _ _ _ _ _ c.put_item_line-next.ensures _ ∙ ap (laid _ _) (item_cut _ _ _ held)

pub put_item-returns-in-Nothing : goal.put_item-returns-in-Nothing
put_item-returns-in-Nothing t c =
    let held = (rw c.in-Nothing.is at c.holds.ensures).0 in
    c.put_item_line-next.ensures ∙ ap (laid _ _) (item_plain _ _ _ held)

pub put_list-loop-ty-init : goal.put_list-loop-ty-init
put_list-loop-ty-init t c = (search rules, refl, ap (laid _ _) (text_start _ _))

pub put_list-overflow_add-end : goal.put_list-overflow_add-end
put_list-overflow_add-end t c = omega (arith, turn_inside _ _ _ _ c.item_at.ensures _ _ _ c.in-Entry.is)

pub put_list-slice_bounds-put_item-end : goal.put_list-slice_bounds-put_item-end
put_list-slice_bounds-put_item-end t c = omega (arith, turn_inside _ _ _ _ c.item_at.ensures _ _ _ c.in-Entry.is)

pub put_list-put_item-next-requires : goal.put_list-put_item-next-requires
put_list-put_item-next-requires t c = (omega arith, (omega arith, omega arith))

pub put_list-loop-ty-smaller : goal.put_list-loop-ty-smaller
put_list-loop-ty-smaller t c = omega (arith, turn_inside _ _ _ _ c.item_at.ensures _ _ _ c.in-Entry.is)

pub put_list-loop-ty-preserved : goal.put_list-loop-ty-preserved
put_list-loop-ty-preserved t c =
    let found = c.item_at.ensures in
    let wrote = simp add-sub_cancel_left at c.put_item-next.ensures in (
      (turn_inside _ _ _ _ found _ _ _ c.in-Entry.is).1,
      laid_length _ _ _ _ _ c.put_item-next.ensures ∙ c.loop-ty.invariant.1,
      laid_rest _ _ _ _ _ wrote _ ∙ ap (laid _ _) (sym (turn_text _ _ _ _ found _ _ _ c.in-Entry.is)) ∙ c.loop-ty.invariant.2,
    )

pub put_list-returns-in-Cut : goal.put_list-returns-in-Cut
put_list-returns-in-Cut t c =
    c.put_cut_line.ensures ∙ ap (laid _ _) (sym (cut_text _ _ _ _ c.item_at.ensures c.in-Cut.is)) ∙ c.loop-ty.invariant.2

pub put_list-returns-in-End : goal.put_list-returns-in-End
put_list-returns-in-End t c = laid_none _ _ ∙ ap (laid _ _) (sym (end_text _ _ _ _ c.item_at.ensures c.in-End.is)) ∙ c.loop-ty.invariant.2
