-- `changes::spared_extent` meets its contract. The invariant: what is counted, and what is spared of the entries that are left, is what all take.
use mathlib.Core.Path.{◌≡◌}
use Prim.Native.Nat.{◌+◌}
use lib.ListN.{length}
use Rattle.tlv.specs.Entries.{framing}
use Rattle.tlv.specs.Walk.{left}
use Rattle.tlv_writing.specs.Encode.{encode_all}
use Rattle.changes.proofs.Writes.{spared_of}
use Rattle.changes.proofs.spared_extent.Given as goal

abbrev pub invariant-loop-entry : goal.invariant-loop-entry
invariant-loop-entry l =
    (l.bytes + length (encode_all (spared_of l.marks (left l.entry-iterator))) ≡ length (encode_all (spared_of l.marks (framing l.s).entries)))
    × (l.entries + length (spared_of l.marks (left l.entry-iterator)) ≡ length (spared_of l.marks (framing l.s).entries))
