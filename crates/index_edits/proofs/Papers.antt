-- The one equation that an edit's contract is fixes its answer and both outputs.
-- Assumes nothing.
use mathlib.Core.Path.{◌≡◌, ap}
use Prim.Native.Nat.{ℕ}
use mathlib.Core.List.{List}
use Rattle.index_edits.specs.Edits.{Outputs, outputs}
use Rattle.std.specs.Prelude.{Result}
use Rattle.refusal.specs.Results.{answer_of}
use Rattle.refusal.proofs.Papers.{answer_tells}
use Rattle.refusal.specs.declared.Refusal.{Refusal}

pub outputs_tell : (r q : Result ℕ Refusal) (o p x y : List ℕ) → outputs (answer_of r) o x ≡ outputs (answer_of q) p y → (r ≡ q) × (o ≡ p) × (x ≡ y)
outputs_tell r q o p x y e =
    (answer_tells r q (ap (λ (z : Outputs). z.answer) e), ap (λ (z : Outputs). z.dataset) e, ap (λ (z : Outputs). z.index) e)
