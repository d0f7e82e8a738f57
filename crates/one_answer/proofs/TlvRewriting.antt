-- One possible answer for each public call of `tlv_rewriting`.
-- Assumes nothing.
use Rattle.one_answer.proofs.General.{both, leaves}
use Rattle.one_answer.specs.One.{One}

-- tlv_rewriting::write_kept
pub write_kept : One Rattle.tlv_rewriting.specs.contracts.write_kept.ended (λ M 𝓤. Rattle.tlv_rewriting.specs.contracts.write_kept.clauses)
write_kept x r q left over = both x.𝓤 _ _ _ (λ e f. let same = leaves _ r q _ _ e f in (same.0, λ i. (tt, (tt, (same.1 i, tt)))))

-- tlv_rewriting::rewrite
pub rewrite : One Rattle.tlv_rewriting.specs.contracts.rewrite.ended (λ M 𝓤. Rattle.tlv_rewriting.specs.contracts.rewrite.clauses)
rewrite x r q left over = both x.𝓤 _ _ _ (λ e f. let same = leaves _ r q _ _ e f in (same.0, λ i. (tt, (same.1 i, tt))))

-- tlv_rewriting::set_last
pub set_last : One Rattle.tlv_rewriting.specs.contracts.set_last.ended (λ M 𝓤. Rattle.tlv_rewriting.specs.contracts.set_last.clauses)
set_last x r q left over = both x.𝓤 _ _ _ (λ e f. let same = leaves _ r q _ _ e f in (same.0, λ i. (tt, (tt, (tt, (same.1 i, tt))))))

-- tlv_rewriting::push
pub push : One Rattle.tlv_rewriting.specs.contracts.push.ended (λ M 𝓤. Rattle.tlv_rewriting.specs.contracts.push.clauses)
push x r q left over = both x.𝓤 _ _ _ (λ e f. let same = leaves _ r q _ _ e f in (same.0, λ i. (tt, (tt, (tt, (same.1 i, tt))))))
