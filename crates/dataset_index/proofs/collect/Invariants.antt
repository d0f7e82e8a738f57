-- `dataset_index::collect` meets its contract. The invariant: what the walk has left begins at end, and counting on from there gives the count, as in
-- `tlv::count_entries`; and what is noted and the entries that are left give the number of each type and the place of its last.
use mathlib.Core.Path.{◌≡◌}
use Prim.Native.Nat.{◌≤◌}
use lib.ListN.{length}
use Rattle.tlv.specs.Limits.{count}
use Rattle.tlv.specs.Walk.{left, entries_from}
use Rattle.tlv.proofs.Walks.{from}
use Rattle.tlv.proofs.Tally.{tally}
use Rattle.dataset_index.proofs.Tables.{Finding}
use Rattle.dataset_index.proofs.collect.Given as goal

abbrev pub invariant-loop-entry : goal.invariant-loop-entry
invariant-loop-entry l = (entries_from l.s l.end ≡ left l.entry-iterator) × (l.end ≤ length l.s) × (l.n ≤ l.end)
    × (tally 0 l.n l.over (from l.s l.end) ≡ count 0 l.s) × Finding l.table.count l.table.place l.s l.n (left l.entry-iterator)
