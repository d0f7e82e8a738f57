-- One possible answer for each public call of `policy_flags` and `values`.
-- Assumes nothing.
use mathlib.Core.Path.{◌∙◌, refl, sym}
use Rattle.one_answer.proofs.General.{both, flags_tells}
use Rattle.one_answer.specs.One.{One}
use Rattle.refusal.proofs.Papers.{answer_tells}

-- values::Channel::parse
pub channel_parse : One Rattle.values.specs.contracts.Channel.parse.ended (λ M 𝓤. Rattle.values.specs.contracts.Channel.parse.clauses)
channel_parse x r q left over = both x.𝓤 _ _ _ (λ e f. (answer_tells r q (e ∙ sym f), refl))

-- values::Channel::to_value
pub channel_to_value : One Rattle.values.specs.contracts.Channel.to_value.ended (λ M 𝓤. Rattle.values.specs.contracts.Channel.to_value.clauses)
channel_to_value x r q left over = both x.𝓤 _ _ _ (λ e f. (e ∙ sym f, refl))

-- policy_flags::SecurityPolicyFlags::from_bits_retain
pub security_policy_flags_from_bits_retain : One Rattle.policy_flags.specs.contracts.SecurityPolicyFlags.from_bits_retain.ended (λ M 𝓤. Rattle.policy_flags.specs.contracts.SecurityPolicyFlags.from_bits_retain.clauses)
security_policy_flags_from_bits_retain x r q left over = both x.𝓤 _ _ _ (λ e f. (flags_tells r q (e ∙ sym f), refl))

-- policy_flags::SecurityPolicyFlags::bits
pub security_policy_flags_bits : One Rattle.policy_flags.specs.contracts.SecurityPolicyFlags.bits.ended (λ M 𝓤. Rattle.policy_flags.specs.contracts.SecurityPolicyFlags.bits.clauses)
security_policy_flags_bits x r q left over = both x.𝓤 _ _ _ (λ e f. (e ∙ sym f, refl))

-- policy_flags::SecurityPolicyFlags::contains
pub security_policy_flags_contains : One Rattle.policy_flags.specs.contracts.SecurityPolicyFlags.contains.ended (λ M 𝓤. Rattle.policy_flags.specs.contracts.SecurityPolicyFlags.contains.clauses)
security_policy_flags_contains x r q left over = both x.𝓤 _ _ _ (λ e f. (e ∙ sym f, refl))

-- policy_flags::SecurityPolicyFlags::version_threshold_for_routing
pub security_policy_flags_version_threshold_for_routing : One Rattle.policy_flags.specs.contracts.SecurityPolicyFlags.version_threshold_for_routing.ended (λ M 𝓤. Rattle.policy_flags.specs.contracts.SecurityPolicyFlags.version_threshold_for_routing.clauses)
security_policy_flags_version_threshold_for_routing x r q left over = both x.𝓤 _ _ _ (λ e f. (e ∙ sym f, refl))

-- policy_flags::SecurityPolicyFlags::set_version_threshold_for_routing
pub security_policy_flags_set_version_threshold_for_routing : One Rattle.policy_flags.specs.contracts.SecurityPolicyFlags.set_version_threshold_for_routing.ended (λ M 𝓤. Rattle.policy_flags.specs.contracts.SecurityPolicyFlags.set_version_threshold_for_routing.clauses)
security_policy_flags_set_version_threshold_for_routing x r q left over = both x.𝓤 _ _ _ (λ e f. (flags_tells r q (e ∙ sym f), refl))

-- values::SecurityPolicy::parse
pub security_policy_parse : One Rattle.values.specs.contracts.SecurityPolicy.parse.ended (λ M 𝓤. Rattle.values.specs.contracts.SecurityPolicy.parse.clauses)
security_policy_parse x r q left over = both x.𝓤 _ _ _ (λ e f. (answer_tells r q (e ∙ sym f), refl))

-- values::SecurityPolicy::to_value
pub security_policy_to_value : One Rattle.values.specs.contracts.SecurityPolicy.to_value.ended (λ M 𝓤. Rattle.values.specs.contracts.SecurityPolicy.to_value.clauses)
security_policy_to_value x r q left over = both x.𝓤 _ _ _ (λ e f. (e ∙ sym f, refl))
