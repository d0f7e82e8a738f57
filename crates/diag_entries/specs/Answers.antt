-- A part of the payload s, on paper: it says what the definition says of its bytes.
-- Assumes nothing.
use Rattle.std.specs.Prelude.{ℕ, List, take, drop}
use Rattle.diag_rows.specs.declared.Part.{Part}
use Rattle.diag_entries.specs.Parts.{Said}

-- the bytes of a part of s, and what f says of them
abbrev pub bytes_at : List ℕ → (start len : ℕ) → List ℕ
bytes_at s a n = take n (drop a s)

abbrev pub said_at : {A : Type 0} → (List ℕ → A) → List ℕ → Part → Said A
said_at f s q = record { start = q.start; len = q.len; says = f (bytes_at s q.start q.len) }
