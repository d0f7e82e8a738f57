-- One possible answer for each public call of `plain_values`.
-- Assumes nothing.
use mathlib.Core.Path.{◌∙◌, refl, sym}
use Rattle.one_answer.proofs.General.{both}
use Rattle.one_answer.specs.One.{One}
use Rattle.refusal.proofs.Papers.{answer_tells}

-- plain_values::read_array, for every N
pub read_array : (g : _) → One (Rattle.plain_values.specs.contracts.read_array.ended g) (λ M 𝓤. Rattle.plain_values.specs.contracts.read_array.clauses g)
read_array g x r q left over = both x.𝓤 _ _ _ (λ e f. (answer_tells r q (e ∙ sym f), refl))

-- plain_values::check_bytes
pub check_bytes : One Rattle.plain_values.specs.contracts.check_bytes.ended (λ M 𝓤. Rattle.plain_values.specs.contracts.check_bytes.clauses)
check_bytes x r q left over = both x.𝓤 _ _ _ (λ e f. (answer_tells r q (e ∙ sym f), refl))

-- plain_values::check_name
pub check_name : One Rattle.plain_values.specs.contracts.check_name.ended (λ M 𝓤. Rattle.plain_values.specs.contracts.check_name.clauses)
check_name x r q left over = both x.𝓤 _ _ _ (λ e f. (answer_tells r q (e ∙ sym f), refl))
