-- One possible answer for each public call of `connectivity`.
-- Assumes nothing.
use mathlib.Core.Path.{◌∙◌, refl, sym}
use Rattle.connectivity.proofs.Papers.{connectivity_tells}
use Rattle.one_answer.proofs.General.{both}
use Rattle.one_answer.specs.One.{One}

-- connectivity::decode_connectivity
pub decode_connectivity : One Rattle.connectivity.specs.contracts.decode_connectivity.ended (λ M 𝓤. Rattle.connectivity.specs.contracts.decode_connectivity.clauses)
decode_connectivity x r q left over = both x.𝓤 _ _ _ (λ e f. (connectivity_tells r q (e ∙ sym f), refl))
