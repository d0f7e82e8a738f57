-- One possible answer for each public call of `utf8`.
-- Assumes nothing.
use mathlib.Core.Path.{◌∙◌, refl, sym}
use Rattle.one_answer.proofs.General.{both}
use Rattle.one_answer.specs.One.{One}

-- utf8::is_utf8
pub is_utf8 : One Rattle.utf8.specs.contracts.is_utf8.ended (λ M 𝓤. Rattle.utf8.specs.contracts.is_utf8.clauses)
is_utf8 x r q left over = both x.𝓤 _ _ _ (λ e f. (e ∙ sym f, refl))

-- utf8::class
pub class : One Rattle.utf8.specs.contracts.class.ended (λ M 𝓤. Rattle.utf8.specs.contracts.class.clauses)
class x r q left over = both x.𝓤 _ _ _ (λ e f. (e ∙ sym f, refl))
