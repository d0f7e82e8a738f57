-- `child_lists::nth_child_list` meets its contract. The invariant: of the entries of type 30 that are left, the one that is `left` further on is the answer.
use mathlib.Core.Path.{◌≡◌}
use Rattle.tlv.specs.Walk.{entries_from}
use Rattle.tlv.specs.Walk as walk
use Rattle.refusal.specs.Numbered.{nth}
use Rattle.diag_entries.specs.Parts.{all_of}
use Rattle.child_lists.proofs.nth_child_list.Given as goal

abbrev pub invariant-loop-entry : goal.invariant-loop-entry
invariant-loop-entry l = nth (all_of 30 (walk.left l.entry-iterator)) l.left ≡ nth (all_of 30 (entries_from l.payload l.place)) l.k
