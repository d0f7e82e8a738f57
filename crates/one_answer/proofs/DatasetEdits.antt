-- One possible answer for each public call of `dataset_edits` and `dataset_hex`.
-- Assumes nothing.
use Rattle.one_answer.proofs.General.{both, leaves}
use Rattle.one_answer.specs.One.{One}

-- dataset_edits::set_raw
pub set_raw : One Rattle.dataset_edits.specs.contracts.set_raw.ended (λ M 𝓤. Rattle.dataset_edits.specs.contracts.set_raw.clauses)
set_raw x r q left over = both x.𝓤 _ _ _ (λ e f. let same = leaves _ r q _ _ e f in (same.0, λ i. (tt, (tt, (tt, (same.1 i, tt))))))

-- dataset_edits::remove_all
pub remove_all : One Rattle.dataset_edits.specs.contracts.remove_all.ended (λ M 𝓤. Rattle.dataset_edits.specs.contracts.remove_all.clauses)
remove_all x r q left over = both x.𝓤 _ _ _ (λ e f. let same = leaves _ r q _ _ e f in (same.0, λ i. (tt, (tt, (same.1 i, tt)))))

-- dataset_edits::to_bytes
pub to_bytes : One Rattle.dataset_edits.specs.contracts.to_bytes.ended (λ M 𝓤. Rattle.dataset_edits.specs.contracts.to_bytes.clauses)
to_bytes x r q left over = both x.𝓤 _ _ _ (λ e f. let same = leaves _ r q _ _ e f in (same.0, λ i. (tt, (same.1 i, tt))))

-- dataset_hex::to_hex
pub to_hex : One Rattle.dataset_hex.specs.contracts.to_hex.ended (λ M 𝓤. Rattle.dataset_hex.specs.contracts.to_hex.clauses)
to_hex x r q left over = both x.𝓤 _ _ _ (λ e f. let same = leaves _ r q _ _ e f in (same.0, λ i. (tt, (same.1 i, tt))))

-- dataset_hex::from_hex
pub from_hex : One Rattle.dataset_hex.specs.contracts.from_hex.ended (λ M 𝓤. Rattle.dataset_hex.specs.contracts.from_hex.clauses)
from_hex x r q left over = both x.𝓤 _ _ _ (λ e f. let same = leaves _ r q _ _ e f in (same.0, λ i. (tt, (same.1 i, tt))))
