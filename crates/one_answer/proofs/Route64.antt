-- One possible answer for each public call of `route64`.
-- Assumes nothing.
use mathlib.Core.Path.{◌∙◌, refl, sym}
use Rattle.one_answer.proofs.General.{both}
use Rattle.one_answer.specs.One.{One}
use Rattle.refusal.proofs.Papers.{answer_tells, found_tells}

-- route64::Route64::default
pub default : One Rattle.route64.specs.contracts.Route64Default.default.ended (λ M 𝓤. Rattle.route64.specs.contracts.Route64Default.default.clauses)
default x r q left over = both x.𝓤 _ _ _ (λ e f. (e ∙ sym f, refl))

-- route64::decode_route64
pub decode_route64 : One Rattle.route64.specs.contracts.decode_route64.ended (λ M 𝓤. Rattle.route64.specs.contracts.decode_route64.clauses)
decode_route64 x r q left over = both x.𝓤 _ _ _ (λ e f. (answer_tells r q (e ∙ sym f), refl))

-- route64::route64_row
pub route64_row : One Rattle.route64.specs.contracts.route64_row.ended (λ M 𝓤. Rattle.route64.specs.contracts.route64_row.clauses)
route64_row x r q left over = both x.𝓤 _ _ _ (λ e f. (found_tells r q (e ∙ sym f), refl))
