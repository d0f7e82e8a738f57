-- One possible answer for each public call of `timestamps`.
-- Assumes nothing.
use mathlib.Core.Path.{◌∙◌, refl, sym}
use Rattle.one_answer.proofs.General.{both, stamp_tells}
use Rattle.one_answer.specs.One.{One}
use Rattle.refusal.proofs.Papers.{answer_tells}

-- timestamps::Timestamp::from_raw
pub timestamp_from_raw : One Rattle.timestamps.specs.contracts.Timestamp.from_raw.ended (λ M 𝓤. Rattle.timestamps.specs.contracts.Timestamp.from_raw.clauses)
timestamp_from_raw x r q left over = both x.𝓤 _ _ _ (λ e f. (stamp_tells r q (e ∙ sym f), refl))

-- timestamps::Timestamp::from_components
pub timestamp_from_components : One Rattle.timestamps.specs.contracts.Timestamp.from_components.ended (λ M 𝓤. Rattle.timestamps.specs.contracts.Timestamp.from_components.clauses)
timestamp_from_components x r q left over = both x.𝓤 _ _ _ (λ e f. (stamp_tells r q (e ∙ sym f), refl))

-- timestamps::Timestamp::parse
pub timestamp_parse : One Rattle.timestamps.specs.contracts.Timestamp.parse.ended (λ M 𝓤. Rattle.timestamps.specs.contracts.Timestamp.parse.clauses)
timestamp_parse x r q left over = both x.𝓤 _ _ _ (λ e f. (answer_tells r q (e ∙ sym f), refl))

-- timestamps::Timestamp::raw
pub timestamp_raw : One Rattle.timestamps.specs.contracts.Timestamp.raw.ended (λ M 𝓤. Rattle.timestamps.specs.contracts.Timestamp.raw.clauses)
timestamp_raw x r q left over = both x.𝓤 _ _ _ (λ e f. (e ∙ sym f, refl))

-- timestamps::Timestamp::seconds
pub timestamp_seconds : One Rattle.timestamps.specs.contracts.Timestamp.seconds.ended (λ M 𝓤. Rattle.timestamps.specs.contracts.Timestamp.seconds.clauses)
timestamp_seconds x r q left over = both x.𝓤 _ _ _ (λ e f. (e ∙ sym f, refl))

-- timestamps::Timestamp::ticks
pub timestamp_ticks : One Rattle.timestamps.specs.contracts.Timestamp.ticks.ended (λ M 𝓤. Rattle.timestamps.specs.contracts.Timestamp.ticks.clauses)
timestamp_ticks x r q left over = both x.𝓤 _ _ _ (λ e f. (e ∙ sym f, refl))

-- timestamps::Timestamp::authoritative
pub timestamp_authoritative : One Rattle.timestamps.specs.contracts.Timestamp.authoritative.ended (λ M 𝓤. Rattle.timestamps.specs.contracts.Timestamp.authoritative.clauses)
timestamp_authoritative x r q left over = both x.𝓤 _ _ _ (λ e f. (e ∙ sym f, refl))

-- timestamps::Timestamp::to_value
pub timestamp_to_value : One Rattle.timestamps.specs.contracts.Timestamp.to_value.ended (λ M 𝓤. Rattle.timestamps.specs.contracts.Timestamp.to_value.clauses)
timestamp_to_value x r q left over = both x.𝓤 _ _ _ (λ e f. (e ∙ sym f, refl))
