-- `listing::put_lines` meets its contract. The invariant: the lines of what is left, laid from next on, make of out what all the lines make of it.
use mathlib.Core.Path.{◌≡◌}
use lib.ListN.{length}
use Rattle.tlv.specs.Entries.{framing}
use Rattle.tlv.specs.Walk.{left}
use Rattle.text_writing.specs.Laid.{laid}
use Rattle.listing.specs.Listing.{entry_lines}
use Rattle.listing.proofs.put_lines.Given as goal

abbrev pub invariant-loop-entry : goal.invariant-loop-entry
invariant-loop-entry l =
    (length l.out ≡ length l.initial.out) × (laid l.next l.out (entry_lines (left l.entry-iterator)) ≡ laid l.at l.initial.out (entry_lines (framing l.s).entries))
