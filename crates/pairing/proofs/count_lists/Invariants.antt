-- `pairing::count_lists` meets its contract. The invariant: counted + others lists are numbered, those of the entries that are left are still to be.
use Prim.Native.Nat.{◌+◌}
use Rattle.refusal.specs.Results.{option_of}
use Rattle.tlv.specs.Entries.{framing}
use Rattle.tlv.specs.Walk.{left}
use Rattle.diag_entries.proofs.Passed.{Passed}
use Rattle.pairing.specs.Loops.{lists_of, keys_of}
use Rattle.pairing.proofs.Tallies.{Counting, Placing}
use Rattle.pairing.proofs.count_lists.Given as goal

abbrev pub invariant-loop-entry : goal.invariant-loop-entry
invariant-loop-entry l = Placing l.place (keys_of (option_of l.own) (lists_of (framing l.payload).entries)) (keys_of (option_of l.own) (lists_of (left l.entry-iterator))) (l.counted + l.others)
    × Counting l.count (keys_of (option_of l.own) (lists_of (framing l.payload).entries)) (keys_of (option_of l.own) (lists_of (left l.entry-iterator))) (l.counted + l.others)
    × Passed (l.counted + l.others) l.payload (left l.entry-iterator)
