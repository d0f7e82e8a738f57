-- The contract of `decode` fixes the answer and the tables.
-- Assumes nothing.
use mathlib.Core.Path.{ap, ◌∙◌}
use mathlib.Core.List.{List}
use Prim.Native.Nat.{ℕ}
use Rattle.network_data.specs.declared.PrefixEntry.{PrefixEntry}
use Rattle.network_data.specs.declared.HasRouteEntry.{HasRouteEntry}
use Rattle.network_data.specs.declared.BorderRouterEntry.{BorderRouterEntry}
use Rattle.diag.specs.declared.NetDiagData.{NetDiagData}
use Rattle.diag_tables.proofs.Papers.{outcome_tells}
use Rattle.std.specs.Prelude.{Result}
use Rattle.refusal.proofs.Papers.{Tells}
use Rattle.refusal.specs.declared.Refusal.{Refusal}
use Rattle.diag_bridge.specs.Parts.{outcome_of}
use Rattle.diag_bridge.specs.declared.Left.{Left}

abbrev left_of : Result NetDiagData Refusal → List PrefixEntry → List HasRouteEntry → List BorderRouterEntry → Left
left_of a p h b = record { answer = a; tables = record { prefixes = p; has_route = h; border_routers = b } }

pub left_tells : (s : List ℕ) → Tells (outcome_of s)
left_tells s r q e =
    let t = outcome_tells s r.answer q.answer _ _ _ _ _ _ e in
    ap (λ (a : Result NetDiagData Refusal). left_of a r.tables.prefixes r.tables.has_route r.tables.border_routers) t.0
    ∙ ap (λ (p : List PrefixEntry). left_of q.answer p r.tables.has_route r.tables.border_routers) t.1
    ∙ ap (λ (h : List HasRouteEntry). left_of q.answer q.tables.prefixes h r.tables.border_routers) t.2
    ∙ ap (left_of q.answer q.tables.prefixes q.tables.has_route) t.3
