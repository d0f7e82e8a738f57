-- One possible answer for each public call of `text_writing`.
-- Assumes nothing.
use Rattle.one_answer.proofs.General.{both, leaves_placed}
use Rattle.one_answer.specs.One.{One}

-- text_writing::put_byte
pub put_byte : One Rattle.text_writing.specs.contracts.put_byte.ended (λ M 𝓤. Rattle.text_writing.specs.contracts.put_byte.clauses)
put_byte x r q left over = both x.𝓤 _ _ _ (λ e f. let same = leaves_placed _ r q _ _ e f in (same.0, λ i. (tt, (same.1 i, (tt, tt)))))

-- text_writing::put_text
pub put_text : One Rattle.text_writing.specs.contracts.put_text.ended (λ M 𝓤. Rattle.text_writing.specs.contracts.put_text.clauses)
put_text x r q left over = both x.𝓤 _ _ _ (λ e f. let same = leaves_placed _ r q _ _ e f in (same.0, λ i. (tt, (same.1 i, (tt, tt)))))

-- text_writing::put_decimal
pub put_decimal : One Rattle.text_writing.specs.contracts.put_decimal.ended (λ M 𝓤. Rattle.text_writing.specs.contracts.put_decimal.clauses)
put_decimal x r q left over = both x.𝓤 _ _ _ (λ e f. let same = leaves_placed _ r q _ _ e f in (same.0, λ i. (tt, (same.1 i, (tt, tt)))))
