-- What demand 3 says of the calls `run`, `fold` and `fold_two`, by name. The demand itself is proofs/Calls.antt.
-- Assumes nothing.
use Rattle.std.specs.Prelude.{ℕ, ◌≡◌, List, [], length, take}
use Rattle.refusal.specs.Sizes.{most_bytes}
use Rattle.refusal.specs.Answer.{Answer, given, absent, refused}
use Rattle.refusal.specs.Output.{Output, emit}
use Rattle.change_folds.specs.Run.{ran}
use Rattle.change_folds.specs.Fold.{folded, folded_two}

-- "Demand 3 reads with the new sizes and buffers of 16,384 bytes" (document 02, Six): an output as long as the limit of a list or dataset
pub record Roomy : Type 0 where
  pub bytes : List ℕ
  pub room : length bytes ≡ most_bytes

-- what the calls `run`, `fold` and `fold_two` answer and leave in such an output, as their contracts have it
abbrev pub running : (dataset list : List ℕ) → Roomy → Output
running d l out = emit (ran d l) out.bytes

abbrev pub folding : List ℕ → Roomy → Output
folding l out = emit (folded l) out.bytes

abbrev pub folding_two : (first second : List ℕ) → Roomy → Output
folding_two a b out = emit (folded_two a b) out.bytes

-- the bytes that a call wrote: as many as it answers, none where it refuses
abbrev pub first_of : Answer ℕ → List ℕ → List ℕ
first_of (given n) left = take n left
first_of absent left = []
first_of (refused n p i) left = []

abbrev pub wrote : Output → List ℕ
wrote o = first_of o.answer o.left

-- equal answers and equal written bytes
abbrev pub Same : Output → Output → Type 0
Same o p = (o.answer ≡ p.answer) × (wrote o ≡ wrote p)
