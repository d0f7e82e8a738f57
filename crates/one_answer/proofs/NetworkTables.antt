-- One possible answer for each public call of `network_tables`.
-- Assumes nothing.
use mathlib.Core.Path.{◌∙◌, refl, sym}
use Rattle.network_tables.proofs.Papers.{outcome_tells}
use Rattle.one_answer.proofs.General.{both}
use Rattle.one_answer.specs.One.{One}
use Rattle.refusal.proofs.Papers.{found_tells}

-- network_tables::has_route_at
pub has_route_at : One Rattle.network_tables.specs.contracts.has_route_at.ended (λ M 𝓤. Rattle.network_tables.specs.contracts.has_route_at.clauses)
has_route_at x r q left over = both x.𝓤 _ _ _ (λ e f. (found_tells r q (e ∙ sym f), refl))

-- network_tables::border_router_at
pub border_router_at : One Rattle.network_tables.specs.contracts.border_router_at.ended (λ M 𝓤. Rattle.network_tables.specs.contracts.border_router_at.clauses)
border_router_at x r q left over = both x.𝓤 _ _ _ (λ e f. (found_tells r q (e ∙ sym f), refl))

-- network_tables::prefix_at
pub prefix_at : One Rattle.network_tables.specs.contracts.prefix_at.ended (λ M 𝓤. Rattle.network_tables.specs.contracts.prefix_at.clauses)
prefix_at x r q left over = both x.𝓤 _ _ _ (λ e f. (found_tells r q (e ∙ sym f), refl))

-- network_tables::decode
pub decode : One Rattle.network_tables.specs.contracts.decode.ended (λ M 𝓤. Rattle.network_tables.specs.contracts.decode.clauses)
decode x r q left over = both x.𝓤 _ _ _ (λ e f. let same = outcome_tells r q _ _ _ _ _ _ (e ∙ sym f) in (same.0, λ i. (tt, (same.1 i, (same.2 i, (same.3 i, tt))))))
