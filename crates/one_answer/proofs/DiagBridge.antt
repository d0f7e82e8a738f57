-- One possible answer for the public call of `diag_bridge`, the tables by value among it.
-- Assumes nothing.
use mathlib.Core.Path.{◌∙◌, refl, sym}
use Rattle.diag_bridge.proofs.Papers.{left_tells}
use Rattle.one_answer.proofs.General.{both}
use Rattle.one_answer.specs.One.{One}

-- diag_bridge::decode
pub decode : One Rattle.diag_bridge.specs.contracts.decode.ended (λ M 𝓤. Rattle.diag_bridge.specs.contracts.decode.clauses)
decode x r q left over = both x.𝓤 _ _ _ (λ e f. (left_tells x.passed.0.now r q (e ∙ sym f), refl))
