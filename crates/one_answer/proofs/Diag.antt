-- One possible answer for each public call of `diag`.
-- Assumes nothing.
use mathlib.Core.Path.{◌∙◌, refl, sym}
use Rattle.diag.proofs.Papers.{decoded_tells}
use Rattle.one_answer.proofs.General.{both}
use Rattle.one_answer.specs.One.{One}

-- diag::NetDiagData::decode
pub net_diag_data_decode : One Rattle.diag.specs.contracts.NetDiagData.decode.ended (λ M 𝓤. Rattle.diag.specs.contracts.NetDiagData.decode.clauses)
net_diag_data_decode x r q left over = both x.𝓤 _ _ _ (λ e f. (decoded_tells x.passed.0.now r q (e ∙ sym f), refl))
