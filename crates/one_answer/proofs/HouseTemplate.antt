-- One possible answer for each public call of `house_template`.
-- Assumes nothing.
use mathlib.Core.Path.{◌∙◌, refl, sym}
use Rattle.house_template.proofs.Papers.{supplied_tells}
use Rattle.one_answer.proofs.General.{both}
use Rattle.one_answer.specs.One.{One, OneBy}

-- house_template::supplied_entry
pub supplied_entry : One Rattle.house_template.specs.contracts.supplied_entry.ended (λ M 𝓤. Rattle.house_template.specs.contracts.supplied_entry.clauses)
supplied_entry x r q left over = both x.𝓤 _ _ _ (λ e f. (supplied_tells r q (e ∙ sym f), refl))

-- house_template::supplied_value
pub supplied_value : OneBy Rattle.house_template.specs.contracts.supplied_value.ended (λ κs r. r.now) (λ M 𝓤. Rattle.house_template.specs.contracts.supplied_value.clauses)
supplied_value x r q left over = both x.𝓤 _ _ _ (λ e f. (e ∙ sym f, refl))
