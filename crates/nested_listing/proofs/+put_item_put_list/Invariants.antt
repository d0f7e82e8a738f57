-- The list printer and the item printer. A list prints its items by the nesting that is allowed to it, and an item prints the list that it holds by one less, so
-- that twice the nesting, less one for an item, falls with each call. The list printer's loop: the text from pos on, laid from next on, makes of out what all of
-- it makes of it.
use mathlib.Core.Path.{◌≡◌}
use Prim.Native.Nat.{◌-◌, ◌*◌, ◌≤◌}
use lib.ListN.{length}
use Rattle.text_writing.specs.Laid.{laid}
use Rattle.nested_listing.specs.Levels.{list_text}
use Rattle.nested_listing.proofs.Turns.{text_from}
use Rattle.nested_listing.proofs.+put_item_put_list.Given as goal

abbrev pub decreases-put_item : goal.decreases-put_item
decreases-put_item l = 2 * l.nesting - 1

abbrev pub decreases-put_list : goal.decreases-put_list
decreases-put_list l = 2 * l.nesting

abbrev pub invariant-put_list-loop-ty : goal.invariant-put_list-loop-ty
invariant-put_list-loop-ty l = (l.pos ≤ length l.s) × (length l.out ≡ length l.initial.out)
    × (laid l.next l.out (text_from l.nesting l.s l.pos) ≡ laid l.at l.initial.out (list_text l.nesting l.s))

abbrev pub decreases-put_list-loop-ty : goal.decreases-put_list-loop-ty
decreases-put_list-loop-ty l = length l.s - l.pos
