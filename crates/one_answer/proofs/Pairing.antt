-- One possible answer for each public call of `pairing`.
-- Assumes nothing.
use mathlib.Core.Path.{◌∙◌, refl, sym}
use Rattle.one_answer.proofs.General.{both, leaves}
use Rattle.one_answer.specs.One.{One}
use Rattle.refusal.proofs.Papers.{found_tells}

-- pairing::pair
pub pair : One Rattle.pairing.specs.contracts.pair.ended (λ M 𝓤. Rattle.pairing.specs.contracts.pair.clauses)
pair x r q left over = both x.𝓤 _ _ _ (λ e f. let same = leaves _ r q _ _ e f in (same.0, λ i. (tt, (same.1 i, tt))))

-- pairing::pair_row
pub pair_row : One Rattle.pairing.specs.contracts.pair_row.ended (λ M 𝓤. Rattle.pairing.specs.contracts.pair_row.clauses)
pair_row x r q left over = both x.𝓤 _ _ _ (λ e f. (found_tells r q (e ∙ sym f), refl))
