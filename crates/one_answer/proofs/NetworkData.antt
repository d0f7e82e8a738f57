-- One possible answer for each public call of `network_data`.
-- Assumes nothing.
use mathlib.Core.Path.{◌∙◌, refl, sym}
use Rattle.one_answer.proofs.General.{both}
use Rattle.one_answer.specs.One.{One}
use Rattle.refusal.proofs.Papers.{answer_tells}

-- network_data::check
pub check : One Rattle.network_data.specs.contracts.check.ended (λ M 𝓤. Rattle.network_data.specs.contracts.check.clauses)
check x r q left over = both x.𝓤 _ _ _ (λ e f. (answer_tells r q (e ∙ sym f), refl))
