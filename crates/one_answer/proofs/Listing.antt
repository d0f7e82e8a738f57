-- One possible answer for each public call of `listing`.
-- Assumes nothing.
use mathlib.Core.Path.{◌∙◌, refl, sym}
use Rattle.one_answer.proofs.General.{both, leaves, leaves_placed}
use Rattle.one_answer.specs.One.{One}

-- listing::put_line
pub put_line : One Rattle.listing.specs.contracts.put_line.ended (λ M 𝓤. Rattle.listing.specs.contracts.put_line.clauses)
put_line x r q left over = both x.𝓤 _ _ _ (λ e f. let same = leaves_placed _ r q _ _ e f in (same.0, λ i. (tt, (tt, (same.1 i, (tt, tt))))))

-- listing::list
pub list : One Rattle.listing.specs.contracts.list.ended (λ M 𝓤. Rattle.listing.specs.contracts.list.clauses)
list x r q left over = both x.𝓤 _ _ _ (λ e f. let same = leaves _ r q _ _ e f in (same.0, λ i. (tt, (same.1 i, tt))))

-- listing::list_hex
pub list_hex : One Rattle.listing.specs.contracts.list_hex.ended (λ M 𝓤. Rattle.listing.specs.contracts.list_hex.clauses)
list_hex x r q left over = both x.𝓤 _ _ _ (λ e f. let same = leaves _ r q _ _ e f in (same.0, λ i. (tt, (same.1 i, tt))))

-- listing::line_end
pub line_end : One Rattle.listing.specs.contracts.line_end.ended (λ M 𝓤. Rattle.listing.specs.contracts.line_end.clauses)
line_end x r q left over = both x.𝓤 _ _ _ (λ e f. (e ∙ sym f, refl))

-- listing::tell
pub tell : One Rattle.listing.specs.contracts.tell.ended (λ M 𝓤. Rattle.listing.specs.contracts.tell.clauses)
tell x r q left over = both x.𝓤 _ _ _ (λ e f. let same = leaves _ r q _ _ e f in (same.0, λ i. (tt, (same.1 i, tt))))

-- listing::report_text
pub report_text : One Rattle.listing.specs.contracts.report_text.ended (λ M 𝓤. Rattle.listing.specs.contracts.report_text.clauses)
report_text x r q left over = both x.𝓤 _ _ _ (λ e f. let same = leaves _ r q _ _ e f in (same.0, λ i. (tt, (same.1 i, tt))))
