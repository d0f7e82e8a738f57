-- One possible answer for each public call of `nested_listing`.
-- Assumes nothing.
use Rattle.one_answer.proofs.General.{both, leaves}
use Rattle.one_answer.specs.One.{One}

-- nested_listing::list_nested
pub list_nested : One Rattle.nested_listing.specs.contracts.list_nested.ended (λ M 𝓤. Rattle.nested_listing.specs.contracts.list_nested.clauses)
list_nested x r q left over = both x.𝓤 _ _ _ (λ e f. let same = leaves _ r q _ _ e f in (same.0, λ i. (tt, (same.1 i, tt))))

-- nested_listing::list_nested_hex
pub list_nested_hex : One Rattle.nested_listing.specs.contracts.list_nested_hex.ended (λ M 𝓤. Rattle.nested_listing.specs.contracts.list_nested_hex.clauses)
list_nested_hex x r q left over = both x.𝓤 _ _ _ (λ e f. let same = leaves _ r q _ _ e f in (same.0, λ i. (tt, (same.1 i, tt))))

-- nested_listing::report_text
pub report_text : One Rattle.nested_listing.specs.contracts.report_text.ended (λ M 𝓤. Rattle.nested_listing.specs.contracts.report_text.clauses)
report_text x r q left over = both x.𝓤 _ _ _ (λ e f. let same = leaves _ r q _ _ e f in (same.0, λ i. (tt, (same.1 i, tt))))
