-- One possible answer for each public call of `address_writing`.
-- Assumes nothing.
use Rattle.one_answer.proofs.General.{both, leaves}
use Rattle.one_answer.specs.One.{One}

-- address_writing::write_address
pub write_address : One Rattle.address_writing.specs.contracts.write_address.ended (λ M 𝓤. Rattle.address_writing.specs.contracts.write_address.clauses)
write_address x r q left over = both x.𝓤 _ _ _ (λ e f. let same = leaves _ r q _ _ e f in (same.0, λ i. (tt, (same.1 i, tt))))
