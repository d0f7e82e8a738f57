-- `payload_sums::rows::lists_sum` meets its contract. The invariant: the lists that are left, added to what is summed so far, make the sum of all.
use mathlib.Core.Path.{◌≡◌}
use Rattle.tlv.specs.Walk.{left}
use Rattle.diag_entries.specs.Parts.{all_of}
use Rattle.payload_sums.specs.Rows.{lists_onto, lists}
use Rattle.payload_sums.proofs.rows.lists_sum.Given as goal

abbrev pub invariant-loop-entry : goal.invariant-loop-entry
invariant-loop-entry l = lists_onto l.n (all_of 30 (left l.entry-iterator)) ≡ lists l.payload
