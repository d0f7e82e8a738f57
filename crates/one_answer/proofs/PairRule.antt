-- One possible answer for each public call of `pair_rule`.
-- Assumes nothing.
use mathlib.Core.Path.{◌∙◌, refl, sym}
use Rattle.one_answer.proofs.General.{both}
use Rattle.one_answer.specs.One.{One}

-- pair_rule::Pairing::code
pub pairing_code : One Rattle.pair_rule.specs.contracts.Pairing.code.ended (λ M 𝓤. Rattle.pair_rule.specs.contracts.Pairing.code.clauses)
pairing_code x r q left over = both x.𝓤 _ _ _ (λ e f. (e ∙ sym f, refl))

-- pair_rule::Pairing::from_code
pub pairing_from_code : One Rattle.pair_rule.specs.contracts.Pairing.from_code.ended (λ M 𝓤. Rattle.pair_rule.specs.contracts.Pairing.from_code.clauses)
pairing_from_code x r q left over = both x.𝓤 _ _ _ (λ e f. (e ∙ sym f, refl))

-- pair_rule::judge
pub judge : One Rattle.pair_rule.specs.contracts.judge.ended (λ M 𝓤. Rattle.pair_rule.specs.contracts.judge.clauses)
judge x r q left over = both x.𝓤 _ _ _ (λ e f. (e ∙ sym f, refl))

-- pair_rule::counts
pub counts : One Rattle.pair_rule.specs.contracts.counts.ended (λ M 𝓤. Rattle.pair_rule.specs.contracts.counts.clauses)
counts x r q left over = both x.𝓤 _ _ _ (λ e f. (e ∙ sym f, refl))
