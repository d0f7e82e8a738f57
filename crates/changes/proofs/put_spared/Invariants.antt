-- `changes::put_spared` meets its contract. The invariant: what is left to write, stored from here on, makes of out what all the entries make of it.
use mathlib.Core.Path.{◌≡◌}
use Prim.Native.Nat.{◌+◌}
use lib.ListN.{length}
use Rattle.refusal.specs.Output.{put}
use Rattle.tlv.specs.Entries.{framing}
use Rattle.tlv.specs.Walk.{left}
use Rattle.tlv_writing.specs.Encode.{encode_all}
use Rattle.changes.proofs.Writes.{spared_of}
use Rattle.changes.proofs.put_spared.Given as goal

abbrev pub invariant-loop-entry : goal.invariant-loop-entry
invariant-loop-entry l = (length l.out ≡ length l.initial.out)
    × (l.to + length (encode_all (spared_of l.marks (left l.entry-iterator))) ≡ length (encode_all (spared_of l.marks (framing l.s).entries)))
    × (put l.out l.to (encode_all (spared_of l.marks (left l.entry-iterator))) ≡ put l.initial.out 0 (encode_all (spared_of l.marks (framing l.s).entries)))
