-- One possible answer for each public call of `policy_forms`.
-- Assumes nothing.
use mathlib.Core.Path.{◌∙◌, refl, sym}
use Rattle.policy_forms.proofs.Papers.{either_tells, found_either_tells}
use Rattle.one_answer.proofs.General.{both, leaves}
use Rattle.one_answer.specs.One.{One}

-- policy_forms::EitherPolicy::parse
pub either_policy_parse : One Rattle.policy_forms.specs.contracts.EitherPolicy.parse.ended (λ M 𝓤. Rattle.policy_forms.specs.contracts.EitherPolicy.parse.clauses)
either_policy_parse x r q left over = both x.𝓤 _ _ _ (λ e f. (either_tells r q (e ∙ sym f), refl))

-- policy_forms::EitherPolicy::write
pub either_policy_write : One Rattle.policy_forms.specs.contracts.EitherPolicy.write.ended (λ M 𝓤. Rattle.policy_forms.specs.contracts.EitherPolicy.write.clauses)
either_policy_write x r q left over = both x.𝓤 _ _ _ (λ e f. let same = leaves _ r q _ _ e f in (same.0, λ i. (tt, (same.1 i, tt))))

-- policy_forms::EitherPolicy::version_threshold_for_routing
pub either_policy_version_threshold_for_routing : One Rattle.policy_forms.specs.contracts.EitherPolicy.version_threshold_for_routing.ended (λ M 𝓤. Rattle.policy_forms.specs.contracts.EitherPolicy.version_threshold_for_routing.clauses)
either_policy_version_threshold_for_routing x r q left over = both x.𝓤 _ _ _ (λ e f. (e ∙ sym f, refl))

-- policy_forms::EitherPolicy::set_version_threshold_for_routing
pub either_policy_set_version_threshold_for_routing : One Rattle.policy_forms.specs.contracts.EitherPolicy.set_version_threshold_for_routing.ended (λ M 𝓤. Rattle.policy_forms.specs.contracts.EitherPolicy.set_version_threshold_for_routing.clauses)
either_policy_set_version_threshold_for_routing x r q left over = both x.𝓤 _ _ _ (λ e f. (e ∙ sym f, refl))

-- policy_forms::security_policy
pub security_policy : One Rattle.policy_forms.specs.contracts.security_policy.ended (λ M 𝓤. Rattle.policy_forms.specs.contracts.security_policy.clauses)
security_policy x r q left over = both x.𝓤 _ _ _ (λ e f. (found_either_tells r q (e ∙ sym f), refl))
