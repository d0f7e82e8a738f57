-- A dataset edited by its index, and what is left in the two outputs: both written, or neither. Document 02, Seven: "After a set or a remove the
-- updated index equals the one built afresh from the edited dataset"; 17 "after all faults of the dataset"; then 13, 10, and last 11, for
-- either output.
-- Assumes nothing.
use Rattle.std.specs.Prelude.{ℕ, List, ◌++◌, length, drop, ltb}
use Rattle.refusal.specs.Answer.{pick, Answer, given, absent, refused, then_do}
use Rattle.tlv.specs.Entries.{framing}
use Rattle.dataset_index.specs.Index.{index_bytes, index_size, loaded}

-- an edit, where the stored index is the dataset's: 1, 2, 3, 17, then what the edit itself refuses
unfoldable pub by_stored : (s stored : List ℕ) → (edit : Answer (List ℕ)) → Answer (List ℕ)
by_stored s x edit = then_do (loaded s x) (λ (u : Unit {0}). edit)

-- the answer, which is how many bytes the edited dataset has, and the two outputs as they are left
pub record Outputs : Type 0 where
  pub answer : Answer ℕ
  pub dataset : List ℕ
  pub index : List ℕ

abbrev pub outputs : Answer ℕ → (dataset index : List ℕ) → Outputs
outputs a o x = record { answer = a; dataset = o; index = x }

-- the edited dataset at the start of out and its index at the start of ix, where both have room
unfoldable pub emit_both : Answer (List ℕ) → (out ix : List ℕ) → Outputs
emit_both (given bs) out ix =
    pick (ltb (length out) (length bs)) (outputs (refused 11 0 0) out ix)
    (pick (ltb (length ix) index_size) (outputs (refused 11 0 0) out ix)
    (outputs (given (length bs)) (bs ++ drop (length bs) out) (index_bytes (framing bs).entries ++ drop index_size ix)))
emit_both absent out ix = outputs absent out ix
emit_both (refused n p i) out ix = outputs (refused n p i) out ix
