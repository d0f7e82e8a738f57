-- One possible answer for each public call of `diag_entries`.
-- Assumes nothing.
use mathlib.Core.Path.{◌∙◌, refl, sym}
use Rattle.one_answer.proofs.General.{both}
use Rattle.one_answer.specs.One.{One}
use Rattle.refusal.proofs.Papers.{answer_tells}

-- diag_entries::check_values
pub check_values : One Rattle.diag_entries.specs.contracts.check_values.ended (λ M 𝓤. Rattle.diag_entries.specs.contracts.check_values.clauses)
check_values x r q left over = both x.𝓤 _ _ _ (λ e f. (answer_tells r q (e ∙ sym f), refl))
