-- One possible answer for each public call of `delay`.
-- Assumes nothing.
use mathlib.Core.Path.{◌∙◌, refl, sym}
use Rattle.one_answer.proofs.General.{both}
use Rattle.one_answer.specs.One.{One}
use Rattle.refusal.proofs.Papers.{answer_tells}

-- delay::working_delay
pub working_delay : One Rattle.delay.specs.contracts.working_delay.ended (λ M 𝓤. Rattle.delay.specs.contracts.working_delay.clauses)
working_delay x r q left over = both x.𝓤 _ _ _ (λ e f. (answer_tells r q (e ∙ sym f), refl))

-- delay::working_delay_half_minute
pub working_delay_half_minute : One Rattle.delay.specs.contracts.working_delay_half_minute.ended (λ M 𝓤. Rattle.delay.specs.contracts.working_delay_half_minute.clauses)
working_delay_half_minute x r q left over = both x.𝓤 _ _ _ (λ e f. (answer_tells r q (e ∙ sym f), refl))

-- delay::due_second
pub due_second : One Rattle.delay.specs.contracts.due_second.ended (λ M 𝓤. Rattle.delay.specs.contracts.due_second.clauses)
due_second x r q left over = both x.𝓤 _ _ _ (λ e f. (answer_tells r q (e ∙ sym f), refl))

-- delay::due_second_half_minute
pub due_second_half_minute : One Rattle.delay.specs.contracts.due_second_half_minute.ended (λ M 𝓤. Rattle.delay.specs.contracts.due_second_half_minute.clauses)
due_second_half_minute x r q left over = both x.𝓤 _ _ _ (λ e f. (answer_tells r q (e ∙ sym f), refl))
