-- One possible answer for each public call of `changes`.
-- Assumes nothing.
use Rattle.one_answer.proofs.General.{both, leaves}
use Rattle.one_answer.specs.One.{One}

-- changes::run
pub run : One Rattle.changes.specs.contracts.run.ended (λ M 𝓤. Rattle.changes.specs.contracts.run.clauses)
run x r q left over = both x.𝓤 _ _ _ (λ e f. let same = leaves _ r q _ _ e f in (same.0, λ i. (tt, (tt, (same.1 i, tt)))))

-- changes::fold_two
pub fold_two : One Rattle.changes.specs.contracts.fold_two.ended (λ M 𝓤. Rattle.changes.specs.contracts.fold_two.clauses)
fold_two x r q left over = both x.𝓤 _ _ _ (λ e f. let same = leaves _ r q _ _ e f in (same.0, λ i. (tt, (tt, (same.1 i, tt)))))

-- changes::fold
pub fold : One Rattle.changes.specs.contracts.fold.ended (λ M 𝓤. Rattle.changes.specs.contracts.fold.clauses)
fold x r q left over = both x.𝓤 _ _ _ (λ e f. let same = leaves _ r q _ _ e f in (same.0, λ i. (tt, (same.1 i, tt))))
