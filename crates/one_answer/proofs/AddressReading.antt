-- One possible answer for each public call of `address_reading`.
-- Assumes nothing.
use Rattle.one_answer.proofs.General.{both, leaves}
use Rattle.one_answer.specs.One.{One}

-- address_reading::read_address
pub read_address : One Rattle.address_reading.specs.contracts.read_address.ended (λ M 𝓤. Rattle.address_reading.specs.contracts.read_address.clauses)
read_address x r q left over = both x.𝓤 _ _ _ (λ e f. let same = leaves _ r q _ _ e f in (same.0, λ i. (tt, (same.1 i, tt))))
