-- One possible answer for each public call of `refusal`.
-- Assumes nothing.
use mathlib.Core.Path.{◌∙◌, refl, sym}
use Rattle.one_answer.proofs.General.{both}
use Rattle.one_answer.specs.One.{One}
use Rattle.refusal.proofs.Papers.{answer_tells}

-- refusal::refuse
pub refuse : (g : _) → One (Rattle.refusal.specs.contracts.refuse.ended g) (λ M 𝓤. Rattle.refusal.specs.contracts.refuse.clauses g)
refuse g x r q left over = both x.𝓤 _ _ _ (λ e f. (answer_tells r q (e ∙ sym f), refl))

-- refusal::Fault::number
pub fault_number : One Rattle.refusal.specs.contracts.Fault.number.ended (λ M 𝓤. Rattle.refusal.specs.contracts.Fault.number.clauses)
fault_number x r q left over = both x.𝓤 _ _ _ (λ e f. (e ∙ sym f, refl))
