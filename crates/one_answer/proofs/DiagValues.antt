-- One possible answer for each public call of `diag_values`.
-- Assumes nothing.
use mathlib.Core.Path.{◌∙◌, refl, sym}
use Rattle.one_answer.proofs.General.{both}
use Rattle.one_answer.specs.One.{One}
use Rattle.refusal.proofs.Papers.{answer_tells}

-- diag_values::read_u8
pub read_u8 : One Rattle.diag_values.specs.contracts.read_u8.ended (λ M 𝓤. Rattle.diag_values.specs.contracts.read_u8.clauses)
read_u8 x r q left over = both x.𝓤 _ _ _ (λ e f. (answer_tells r q (e ∙ sym f), refl))

-- diag_values::mode_of
pub mode_of : One Rattle.diag_values.specs.contracts.mode_of.ended (λ M 𝓤. Rattle.diag_values.specs.contracts.mode_of.clauses)
mode_of x r q left over = both x.𝓤 _ _ _ (λ e f. (e ∙ sym f, refl))

-- diag_values::ModeData::decode
pub mode_data_decode : One Rattle.diag_values.specs.contracts.ModeData.decode.ended (λ M 𝓤. Rattle.diag_values.specs.contracts.ModeData.decode.clauses)
mode_data_decode x r q left over = both x.𝓤 _ _ _ (λ e f. (answer_tells r q (e ∙ sym f), refl))

-- diag_values::decode_leader_data
pub decode_leader_data : One Rattle.diag_values.specs.contracts.decode_leader_data.ended (λ M 𝓤. Rattle.diag_values.specs.contracts.decode_leader_data.clauses)
decode_leader_data x r q left over = both x.𝓤 _ _ _ (λ e f. (answer_tells r q (e ∙ sym f), refl))

-- diag_values::decode_mac_counters
pub decode_mac_counters : One Rattle.diag_values.specs.contracts.decode_mac_counters.ended (λ M 𝓤. Rattle.diag_values.specs.contracts.decode_mac_counters.clauses)
decode_mac_counters x r q left over = both x.𝓤 _ _ _ (λ e f. (answer_tells r q (e ∙ sym f), refl))
