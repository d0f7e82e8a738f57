-- What a walk over entries has left, and an entry that it hands out.
-- Assumes nothing.
use Rattle.std.specs.Prelude.{ℕ, List, length, drop}
use Rattle.tlv.specs.Entries.{Entry, entry, frames}
use Rattle.tlv.specs.declared.walk.Entry.{Entry as Handed}
use Rattle.tlv.specs.declared.walk.EntryIter.{EntryIter}

-- the entries from a place on, where one begins
unfoldable pub entries_from : List ℕ → ℕ → List Entry
entries_from s at = (frames (length s) at (drop at s)).entries

abbrev pub left : EntryIter → List Entry
left w = entries_from w.bytes.now w.at

abbrev pub as_entry : Handed → Entry
as_entry e = entry e.place e.ty e.start e.value.now
