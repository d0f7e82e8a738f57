-- Entries as they are written: "Writing uses the short header to 254 and the long one from 255" (document 01).
-- Assumes nothing.
use Rattle.std.specs.Prelude.{◌≡◌, ℕ, ◌+◌, ◌/◌, ◌%◌, ◌<◌, List, [], ◌∷◌, ◌++◌, length, leb, ltb}
use Rattle.refusal.specs.Sizes.{most_bytes, most_entries, most_short, most_value}
use Rattle.refusal.specs.Answer.{pick, Answer, given, absent, refused}
use Rattle.refusal.specs.Output.{Placed, placing, placed}
use Rattle.tlv.specs.Entries.{Entry, Content}

-- the shortest header of a value of n bytes
unfoldable pub header : (ty n : ℕ) → List ℕ
header t n = pick (leb n most_short) (t ∷ n ∷ []) (t ∷ 255 ∷ (n / 256) ∷ (n % 256) ∷ [])

-- and that alone: 13, "value over 65,535 bytes ... to be written"
unfoldable pub headed : (ty n : ℕ) → Answer (List ℕ)
headed t n = pick (ltb most_value n) (refused 13 0 0) (given (header t n))

-- one entry
unfoldable pub encode : (ty : ℕ) → (value : List ℕ) → List ℕ
encode t v = header t (length v) ++ v

-- how many bytes that is, for a value of n bytes
unfoldable pub size_of : ℕ → ℕ
size_of n = pick (leb n most_short) (n + 2) (n + 4)

-- and of any n: 0 where no entry has so long a value
unfoldable pub entry_size : ℕ → ℕ
entry_size n = pick (leb n most_value) (size_of n) 0

-- 13, as for the header
unfoldable pub encoded : (ty : ℕ) → (value : List ℕ) → Answer (List ℕ)
encoded t v = pick (ltb most_value (length v)) (refused 13 0 0) (given (encode t v))

-- what is given from a place on, or nothing
unfoldable pub placed_if : Answer (List ℕ) → ℕ → List ℕ → Placed
placed_if (given bs) at out = placed bs at out
placed_if absent at out = placing at out
placed_if (refused n p i) at out = placing at out

-- entries one after the other
unfoldable pub encode_all : List Content → List ℕ
encode_all [] = []
encode_all (c ∷ cs) = encode c.ty c.value ++ encode_all cs

-- "no long header carried a length under 255": a value that starts 4 bytes after its entry is too long for a short header
abbrev pub Shortest : Entry → Type 0
Shortest e = e.start ≡ e.place + 4 → most_short < length e.value

-- entries as they are written, where they keep the sizes of a dataset: 10, "result over the sizes above"
abbrev pub sized_within : (bytes most : ℕ) → List Content → Answer (List ℕ)
sized_within bytes most cs =
    pick (ltb bytes (length (encode_all cs))) (refused 10 0 0) (pick (ltb most (length cs)) (refused 10 0 0) (given (encode_all cs)))

-- within today's sizes
unfoldable pub sized : List Content → Answer (List ℕ)
sized cs = sized_within most_bytes most_entries cs
