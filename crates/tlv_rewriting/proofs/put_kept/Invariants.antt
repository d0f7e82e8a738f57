-- `tlv_rewriting::put_kept` meets its contract. The invariant: what is left to write, stored from here on, makes of out what all the entries make of it.
use mathlib.Core.Path.{◌≡◌}
use Prim.Native.Nat.{◌+◌}
use lib.ListN.{length}
use Rattle.refusal.specs.Every.{Every}
use Rattle.refusal.specs.Output.{put}
use Rattle.tlv.specs.Entries.{framing}
use Rattle.tlv.specs.Walk.{left}
use Rattle.tlv.proofs.Walks.{Lies}
use Rattle.tlv_writing.specs.Encode.{encode_all}
use Rattle.tlv_rewriting.proofs.Kept.{kept_of}
use Rattle.tlv_rewriting.proofs.put_kept.Given as goal

abbrev pub invariant-loop-entry : goal.invariant-loop-entry
invariant-loop-entry l =
    (length l.out ≡ length l.initial.out)
    × (l.to + length (encode_all (kept_of l.c (left l.entry-iterator))) ≡ length (encode_all (kept_of l.c (framing l.s).entries)))
    × (put l.out l.to (encode_all (kept_of l.c (left l.entry-iterator))) ≡ put l.initial.out 0 (encode_all (kept_of l.c (framing l.s).entries)))
    × Every (Lies l.s) (left l.entry-iterator)
