-- One possible answer for the public calls of `writing_plans`.
-- Assumes nothing.
use mathlib.Core.Path.{◌∙◌, refl, sym}
use Rattle.writing_plans.proofs.Papers.{plan_tells}
use Rattle.one_answer.proofs.General.{both}
use Rattle.one_answer.specs.One.{One}

-- writing_plans::count_used
pub count_used : One Rattle.writing_plans.specs.contracts.count_used.ended (λ M 𝓤. Rattle.writing_plans.specs.contracts.count_used.clauses)
count_used x r q left over = both x.𝓤 _ _ _ (λ e f. (e ∙ sym f, refl))

-- writing_plans::plan_by
pub plan_by : One Rattle.writing_plans.specs.contracts.plan_by.ended (λ M 𝓤. Rattle.writing_plans.specs.contracts.plan_by.clauses)
plan_by x r q left over = both x.𝓤 _ _ _ (λ e f. (plan_tells r q (e ∙ sym f), refl))
