-- `dataset::extended_pan_id` meets its contract, by what its reader promises.
use mathlib.Core.Path.{refl, sym, ◌∙◌}
use mathlib.Core.List.{List}
use Prim.Native.Nat.{ℕ}
use Rattle.laws.proofs.Answers.{on_itself}
use Rattle.dataset.proofs.Finds.{query_reads}
use Rattle.dataset.proofs.extended_pan_id.Goals as goal

pub returns : goal.returns
returns c = query_reads _ (λ (v : List ℕ). v) 8 (λ v p q h. h ∙ sym (on_itself _)) _ 2 _ refl c.last_read.ensures
