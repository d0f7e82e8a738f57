-- `network_walker::framing::rest_at` meets its contract: as many bytes follow as the definition leaves. Assumes nothing.
use native.Mathlib.Omega.{arith}
use Rattle.network_framing.proofs.Walks.{turn_inside}
use Rattle.network_walker.proofs.Rests.{item_length, cut_length, end_length}
use Rattle.network_walker.proofs.framing.rest_at.Goals as goal

pub overflow_add-result : goal.overflow_add-result
overflow_add-result c = omega (arith, turn_inside _ _ _ _ c.first_of.ensures _ _ _ c.in-Item.is)

pub returns-in-Item : goal.returns-in-Item
returns-in-Item c =
    omega (arith, turn_inside _ _ _ _ c.first_of.ensures _ _ _ c.in-Item.is, item_length _ _ c.first_of.ensures _ _ _ c.in-Item.is)

pub returns-in-Cut : goal.returns-in-Cut
returns-in-Cut c = omega (arith, cut_length _ _ c.first_of.ensures c.in-Cut.is)

pub returns-in-End : goal.returns-in-End
returns-in-End c = omega (arith, end_length _ _ c.first_of.ensures c.in-End.is)
