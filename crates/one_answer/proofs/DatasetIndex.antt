-- One possible answer for each public call of `dataset_index` and `index_edits`.
-- Assumes nothing.
use mathlib.Core.Path.{◌∙◌, refl, sym}
use Rattle.index_edits.proofs.Papers.{outputs_tell}
use Rattle.one_answer.proofs.General.{both, leaves}
use Rattle.one_answer.specs.One.{One, OneBy}
use Rattle.refusal.proofs.Papers.{answer_tells, found_tells}

-- dataset_index::build
pub build : One Rattle.dataset_index.specs.contracts.build.ended (λ M 𝓤. Rattle.dataset_index.specs.contracts.build.clauses)
build x r q left over = both x.𝓤 _ _ _ (λ e f. let same = leaves _ r q _ _ e f in (same.0, λ i. (tt, (same.1 i, tt))))

-- dataset_index::load
pub load : One Rattle.dataset_index.specs.contracts.load.ended (λ M 𝓤. Rattle.dataset_index.specs.contracts.load.clauses)
load x r q left over = both x.𝓤 _ _ _ (λ e f. (answer_tells r q (e ∙ sym f), refl))

-- dataset_index::last_entry
pub last_entry : One Rattle.dataset_index.specs.contracts.last_entry.ended (λ M 𝓤. Rattle.dataset_index.specs.contracts.last_entry.clauses)
last_entry x r q left over = both x.𝓤 _ _ _ (λ e f. (found_tells r q (e ∙ sym f), refl))

-- dataset_index::last_value
pub last_value : OneBy Rattle.dataset_index.specs.contracts.last_value.ended (λ κs r. r.now) (λ M 𝓤. Rattle.dataset_index.specs.contracts.last_value.clauses)
last_value x r q left over = both x.𝓤 _ _ _ (λ e f. (e ∙ sym f, refl))

-- index_edits::set_raw
pub set_raw : One Rattle.index_edits.specs.contracts.set_raw.ended (λ M 𝓤. Rattle.index_edits.specs.contracts.set_raw.clauses)
set_raw x r q left over = both x.𝓤 _ _ _ (λ e f. let same = outputs_tell r q _ _ _ _ (e ∙ sym f) in (same.0, λ i. (tt, (tt, (tt, (tt, (same.1 i, (same.2 i, tt))))))))

-- index_edits::remove_all
pub remove_all : One Rattle.index_edits.specs.contracts.remove_all.ended (λ M 𝓤. Rattle.index_edits.specs.contracts.remove_all.clauses)
remove_all x r q left over = both x.𝓤 _ _ _ (λ e f. let same = outputs_tell r q _ _ _ _ (e ∙ sym f) in (same.0, λ i. (tt, (tt, (tt, (same.1 i, (same.2 i, tt)))))))
