-- One possible answer for the public call of `network_bridge`, the tables by value among it.
-- Assumes nothing.
use mathlib.Core.Path.{◌∙◌, refl, sym}
use Rattle.network_bridge.proofs.Papers.{decoded_tells}
use Rattle.one_answer.proofs.General.{both}
use Rattle.one_answer.specs.One.{One}

-- network_bridge::decode
pub decode : One Rattle.network_bridge.specs.contracts.decode.ended (λ M 𝓤. Rattle.network_bridge.specs.contracts.decode.clauses)
decode x r q left over = both x.𝓤 _ _ _ (λ e f. (decoded_tells r q (e ∙ sym f), refl))
