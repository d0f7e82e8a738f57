-- One possible answer for each public call of `hex_text`.
-- Assumes nothing.
use Rattle.one_answer.proofs.General.{both, leaves}
use Rattle.one_answer.specs.One.{One}

-- hex_text::encode
pub encode : One Rattle.hex_text.specs.contracts.encode.ended (λ M 𝓤. Rattle.hex_text.specs.contracts.encode.clauses)
encode x r q left over = both x.𝓤 _ _ _ (λ e f. let same = leaves _ r q _ _ e f in (same.0, λ i. (tt, (same.1 i, tt))))
