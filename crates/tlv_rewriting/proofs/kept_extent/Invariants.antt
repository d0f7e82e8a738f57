-- `tlv_rewriting::kept_extent` meets its contract. The invariant: what is counted, and what is kept of the entries that are left, is what all take.
use mathlib.Core.Path.{◌≡◌}
use Prim.Native.Nat.{◌+◌}
use lib.ListN.{length}
use Rattle.refusal.specs.Every.{Every}
use Rattle.tlv.specs.Entries.{framing}
use Rattle.tlv.specs.Walk.{left}
use Rattle.tlv.proofs.Walks.{Lies}
use Rattle.tlv_writing.specs.Encode.{encode_all}
use Rattle.tlv_rewriting.proofs.Kept.{kept_of}
use Rattle.tlv_rewriting.proofs.kept_extent.Given as goal

abbrev pub invariant-loop-entry : goal.invariant-loop-entry
invariant-loop-entry l =
    (l.bytes + length (encode_all (kept_of l.c (left l.entry-iterator))) ≡ length (encode_all (kept_of l.c (framing l.s).entries)))
    × (l.entries + length (kept_of l.c (left l.entry-iterator)) ≡ length (kept_of l.c (framing l.s).entries))
    × Every (Lies l.s) (left l.entry-iterator)
