-- The contract of `decode` fixes the answer and the tables.
-- Assumes nothing.
use mathlib.Core.Path.{ap, ◌∙◌}
use mathlib.Core.List.{List}
use Rattle.network_data.specs.declared.Counts.{Counts}
use Rattle.network_data.specs.declared.PrefixEntry.{PrefixEntry}
use Rattle.network_data.specs.declared.HasRouteEntry.{HasRouteEntry}
use Rattle.network_data.specs.declared.BorderRouterEntry.{BorderRouterEntry}
use Rattle.network_tables.proofs.Papers.{outcome_tells}
use Rattle.std.specs.Prelude.{Result}
use Rattle.refusal.proofs.Papers.{Tells}
use Rattle.refusal.specs.declared.Refusal.{Refusal}
use Rattle.network_bridge.specs.Parts.{outcome_of}
use Rattle.network_bridge.specs.declared.Decoded.{Decoded}

abbrev decoded_of : Result Counts Refusal → List PrefixEntry → List HasRouteEntry → List BorderRouterEntry → Decoded
decoded_of a p h b = record { answer = a; tables = record { prefixes = p; has_route = h; border_routers = b } }

pub decoded_tells : Tells outcome_of
decoded_tells r q e =
    let t = outcome_tells r.answer q.answer _ _ _ _ _ _ e in
    ap (λ (a : Result Counts Refusal). decoded_of a r.tables.prefixes r.tables.has_route r.tables.border_routers) t.0
    ∙ ap (λ (p : List PrefixEntry). decoded_of q.answer p r.tables.has_route r.tables.border_routers) t.1
    ∙ ap (λ (h : List HasRouteEntry). decoded_of q.answer q.tables.prefixes h r.tables.border_routers) t.2
    ∙ ap (decoded_of q.answer q.tables.prefixes q.tables.has_route) t.3
