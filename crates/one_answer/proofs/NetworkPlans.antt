-- One possible answer for the public call of `network_plans`.
-- Assumes nothing.
use mathlib.Core.Path.{◌∙◌, refl, sym}
use Rattle.one_answer.proofs.General.{both}
use Rattle.one_answer.specs.One.{One}
use Rattle.refusal.proofs.Papers.{answer_tells}

-- network_plans::plan_for
pub plan_for : One Rattle.network_plans.specs.contracts.plan_for.ended (λ M 𝓤. Rattle.network_plans.specs.contracts.plan_for.clauses)
plan_for x r q left over = both x.𝓤 _ _ _ (λ e f. (answer_tells r q (e ∙ sym f), refl))
