-- The entries of a dataset or payload within the sizes: "Order: 1, ... then 2 over the whole input, 3" (document 01).
-- Assumes nothing.
use Rattle.std.specs.Prelude.{ℕ, List, [], length, get_or, ltb}
use Rattle.refusal.specs.Sizes.{most_bytes, most_entries}
use Rattle.refusal.specs.Answer.{pick, Answer, given, refused, on_given}
use Rattle.tlv.specs.Entries.{Entry, entry, Stop, clean, cut_at, framing}

-- 3 is given at the first entry past the most that there may be
abbrev pub place_of_next : (most : ℕ) → List Entry → ℕ
place_of_next most es = (get_or es most (entry 0 0 0 [])).place

unfoldable pub limited : (most input : ℕ) → Stop → List Entry → Answer (List Entry)
limited most i (cut_at p) es = refused 2 p i
limited most i clean es = pick (ltb most (length es)) (refused 3 (place_of_next most es) i) (given es)

-- the entries of s, which is the caller's input of that number, or why it has none, where so many bytes and entries are the most
abbrev pub framed_within : (bytes most input : ℕ) → List ℕ → Answer (List Entry)
framed_within bytes most i s = pick (ltb bytes (length s)) (refused 1 0 i) (limited most i (framing s).stop (framing s).entries)

-- within today's sizes
unfoldable pub framed : (input : ℕ) → List ℕ → Answer (List Entry)
framed i s = framed_within most_bytes most_entries i s

-- how many they are
unfoldable pub count : (input : ℕ) → List ℕ → Answer ℕ
count i s = on_given length (framed i s)
