-- The one equation that `decode`'s contract is leaves one answer and one content of each table.
-- Assumes nothing.
use mathlib.Core.Path.{◌≡◌, ap}
use mathlib.Core.List.{List}
use Rattle.std.specs.Prelude.{Result}
use Rattle.refusal.proofs.Papers.{answer_tells}
use Rattle.refusal.specs.Results.{answer_of}
use Rattle.refusal.specs.declared.Refusal.{Refusal}
use Rattle.network_plans.specs.Tables.{Outcome, outcome}
use Rattle.network_data.specs.declared.Counts.{Counts}
use Rattle.network_data.specs.declared.PrefixEntry.{PrefixEntry}
use Rattle.network_data.specs.declared.HasRouteEntry.{HasRouteEntry}
use Rattle.network_data.specs.declared.BorderRouterEntry.{BorderRouterEntry}

pub outcome_tells : (a b : Result Counts Refusal) (P P' : List PrefixEntry) (H H' : List HasRouteEntry) (B B' : List BorderRouterEntry)
    → outcome (answer_of a) P H B ≡ outcome (answer_of b) P' H' B' → (a ≡ b) × (P ≡ P') × (H ≡ H') × (B ≡ B')
outcome_tells a b P P' H H' B B' e = (
  answer_tells a b (ap (λ (x : Outcome). x.answer) e),
  ap (λ (x : Outcome). x.prefixes) e,
  ap (λ (x : Outcome). x.routes) e,
  ap (λ (x : Outcome). x.borders) e,
)
