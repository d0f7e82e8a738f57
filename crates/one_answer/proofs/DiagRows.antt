-- One possible answer for each public call of `diag_rows`.
-- Assumes nothing.
use mathlib.Core.Path.{◌∙◌, refl, sym}
use Rattle.one_answer.proofs.General.{both}
use Rattle.one_answer.specs.One.{One, OneBy}
use Rattle.refusal.proofs.Papers.{answer_tells, found_tells}

-- diag_rows::decode_child_ipv6_addresses
pub decode_child_ipv6_addresses : One Rattle.diag_rows.specs.contracts.decode_child_ipv6_addresses.ended (λ M 𝓤. Rattle.diag_rows.specs.contracts.decode_child_ipv6_addresses.clauses)
decode_child_ipv6_addresses x r q left over = both x.𝓤 _ _ _ (λ e f. (answer_tells r q (e ∙ sym f), refl))

-- diag_rows::child_row
pub child_row : One Rattle.diag_rows.specs.contracts.child_row.ended (λ M 𝓤. Rattle.diag_rows.specs.contracts.child_row.clauses)
child_row x r q left over = both x.𝓤 _ _ _ (λ e f. (found_tells r q (e ∙ sym f), refl))

-- diag_rows::ChildTableEntry::timeout_seconds
pub child_table_entry_timeout_seconds : One Rattle.diag_rows.specs.contracts.ChildTableEntry.timeout_seconds.ended (λ M 𝓤. Rattle.diag_rows.specs.contracts.ChildTableEntry.timeout_seconds.clauses)
child_table_entry_timeout_seconds x r q left over = both x.𝓤 _ _ _ (λ e f. (e ∙ sym f, refl))

-- diag_rows::address_at
pub address_at : One Rattle.diag_rows.specs.contracts.address_at.ended (λ M 𝓤. Rattle.diag_rows.specs.contracts.address_at.clauses)
address_at x r q left over = both x.𝓤 _ _ _ (λ e f. (found_tells r q (e ∙ sym f), refl))

-- diag_rows::address
pub address : OneBy Rattle.diag_rows.specs.contracts.address.ended (λ κs r. r.now) (λ M 𝓤. Rattle.diag_rows.specs.contracts.address.clauses)
address x r q left over = both x.𝓤 _ _ _ (λ e f. (e ∙ sym f, refl))
