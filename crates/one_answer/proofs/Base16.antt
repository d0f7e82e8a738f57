-- One possible answer for each public call of `base16`.
-- Assumes nothing.
use Rattle.one_answer.proofs.General.{both, leaves}
use Rattle.one_answer.specs.One.{One}

-- base16::decode
pub decode : One Rattle.base16.specs.contracts.decode.ended (λ M 𝓤. Rattle.base16.specs.contracts.decode.clauses)
decode x r q left over = both x.𝓤 _ _ _ (λ e f. let same = leaves _ r q _ _ e f in (same.0, λ i. (tt, (same.1 i, tt))))
