-- One possible answer for each public call of `tlv_writing`.
-- Assumes nothing.
use mathlib.Core.Path.{◌∙◌, refl, sym}
use Rattle.one_answer.proofs.General.{both, leaves, leaves_placed}
use Rattle.one_answer.specs.One.{One}

-- tlv_writing::entry_size
pub entry_size : One Rattle.tlv_writing.specs.contracts.entry_size.ended (λ M 𝓤. Rattle.tlv_writing.specs.contracts.entry_size.clauses)
entry_size x r q left over = both x.𝓤 _ _ _ (λ e f. (e ∙ sym f, refl))

-- tlv_writing::encode_header
pub encode_header : One Rattle.tlv_writing.specs.contracts.encode_header.ended (λ M 𝓤. Rattle.tlv_writing.specs.contracts.encode_header.clauses)
encode_header x r q left over = both x.𝓤 _ _ _ (λ e f. let same = leaves _ r q _ _ e f in (same.0, λ i. (tt, (tt, (same.1 i, tt)))))

-- tlv_writing::put_header
pub put_header : One Rattle.tlv_writing.specs.contracts.put_header.ended (λ M 𝓤. Rattle.tlv_writing.specs.contracts.put_header.clauses)
put_header x r q left over = both x.𝓤 _ _ _ (λ e f. let same = leaves_placed _ r q _ _ e f in (same.0, λ i. (tt, (tt, (same.1 i, (tt, tt))))))

-- tlv_writing::put_entry
pub put_entry : One Rattle.tlv_writing.specs.contracts.put_entry.ended (λ M 𝓤. Rattle.tlv_writing.specs.contracts.put_entry.clauses)
put_entry x r q left over = both x.𝓤 _ _ _ (λ e f. let same = leaves_placed _ r q _ _ e f in (same.0, λ i. (tt, (tt, (same.1 i, (tt, tt))))))

-- tlv_writing::write_entry
pub write_entry : One Rattle.tlv_writing.specs.contracts.write_entry.ended (λ M 𝓤. Rattle.tlv_writing.specs.contracts.write_entry.clauses)
write_entry x r q left over = both x.𝓤 _ _ _ (λ e f. let same = leaves _ r q _ _ e f in (same.0, λ i. (tt, (tt, (same.1 i, tt)))))
