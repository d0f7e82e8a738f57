-- What the private functions promise: no public contract cites it.
-- Assumes nothing.
use Rattle.std.specs.Prelude.{◌≡◌, ℕ, zero, suc, ◌<◌, List, [], ◌++◌, length, get_or, Result, Ok, Err}
use Rattle.refusal.specs.Answer.{given}
use Rattle.refusal.specs.Number.{refusal_answer}
use Rattle.refusal.specs.declared.Refusal.{Refusal}
use Rattle.wire_bytes.specs.Bytes.{bytes_of}
use Rattle.tlv.specs.Entries.{framing}
use Rattle.tlv.specs.Limits.{count}
use Rattle.dataset_index.specs.Index.{how_many, last_place}
use Rattle.dataset_index.specs.declared.Table.{Table}

-- the table holds, for each type, how many entries of s have it and where the last begins
pub record Indexed (x : Table) (s : List ℕ) : Type 0 where
  pub many : (t : ℕ) → t < 256 → get_or x.count t 0 ≡ how_many t (framing s).entries
  pub begins : (t : ℕ) → t < 256 → get_or x.place t 0 ≡ last_place t (framing s).entries

-- what one pass says of s: the table, and that s is within the sizes; or its refusal
abbrev pub Collects : List ℕ → Result Table Refusal → Type 0
Collects s (Ok x) = Indexed x s × (given (length (framing s).entries) ≡ count 0 s)
Collects s (Err r) = refusal_answer r ≡ count 0 s

-- n types from t on, by the table's two columns
unfoldable pub slots_in : (count place : List ℕ) → (t n : ℕ) → List ℕ
slots_in c p t zero = []
slots_in c p t (suc n) = bytes_of 2 (get_or c t 0) ++ (bytes_of 2 (get_or p t 0) ++ slots_in c p (suc t) n)
