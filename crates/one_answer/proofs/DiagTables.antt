-- One possible answer for the public call of `diag_tables`.
-- Assumes nothing.
use mathlib.Core.Path.{◌∙◌, sym}
use Rattle.diag_tables.proofs.Papers.{outcome_tells}
use Rattle.one_answer.proofs.General.{both}
use Rattle.one_answer.specs.One.{One}

-- diag_tables::decode
pub decode : One Rattle.diag_tables.specs.contracts.decode.ended (λ M 𝓤. Rattle.diag_tables.specs.contracts.decode.clauses)
decode x r q left over = both x.𝓤 _ _ _ (λ e f. let same = outcome_tells x.passed.0.now r q _ _ _ _ _ _ (e ∙ sym f) in (same.0, λ i. (tt, (same.1 i, (same.2 i, (same.3 i, tt))))))
