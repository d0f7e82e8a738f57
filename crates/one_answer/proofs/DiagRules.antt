-- One possible answer for each public call of `diag_rules`.
-- Assumes nothing.
use mathlib.Core.Path.{◌∙◌, refl, sym}
use Rattle.one_answer.proofs.General.{both}
use Rattle.one_answer.specs.One.{One}
use Rattle.refusal.proofs.Papers.{answer_tells}

-- diag_rules::assigns
pub assigns : One Rattle.diag_rules.specs.contracts.assigns.ended (λ M 𝓤. Rattle.diag_rules.specs.contracts.assigns.clauses)
assigns x r q left over = both x.𝓤 _ _ _ (λ e f. (e ∙ sym f, refl))

-- diag_rules::check_value
pub check_value : One Rattle.diag_rules.specs.contracts.check_value.ended (λ M 𝓤. Rattle.diag_rules.specs.contracts.check_value.clauses)
check_value x r q left over = both x.𝓤 _ _ _ (λ e f. (answer_tells r q (e ∙ sym f), refl))
