-- One possible answer for the public calls of `diag_writing` and `writing_bridge`.
-- Assumes nothing.
use Rattle.one_answer.specs.One.{One}
use Rattle.one_answer.proofs.General.{both, leaves}

-- diag_writing::write
pub write : One Rattle.diag_writing.specs.contracts.write.ended (λ M 𝓤. Rattle.diag_writing.specs.contracts.write.clauses)
write x r q left over =
    both x.𝓤 _ _ _
    (λ e f. let same = leaves _ r q _ _ e f in (same.0, λ i. (tt, (tt, (tt, (tt, (tt, (tt, (tt, (tt, (same.1 i, tt)))))))))))

-- writing_bridge::write
pub write_by_value : One Rattle.writing_bridge.specs.contracts.write.ended (λ M 𝓤. Rattle.writing_bridge.specs.contracts.write.clauses)
write_by_value x r q left over =
    both x.𝓤 _ _ _ (λ e f. let same = leaves _ r q _ _ e f in (same.0, λ i. (tt, (tt, (tt, (tt, (tt, (tt, (same.1 i, tt)))))))))
