-- The one equation that `decode`'s contract is leaves one answer and one content of each table.
-- Assumes nothing.
use Rattle.std.specs.Prelude.{Result}
use Rattle.refusal.specs.declared.Refusal.{Refusal}
use mathlib.Core.Path.{◌≡◌, ap}
use mathlib.Core.List.{List}
use Prim.Native.Nat.{ℕ}
use Rattle.network_data.specs.declared.PrefixEntry.{PrefixEntry}
use Rattle.network_data.specs.declared.HasRouteEntry.{HasRouteEntry}
use Rattle.network_data.specs.declared.BorderRouterEntry.{BorderRouterEntry}
use Rattle.diag.specs.Answers.{decoded_answer}
use Rattle.diag.specs.declared.NetDiagData.{NetDiagData}
use Rattle.diag.proofs.Papers.{decoded_tells}
use Rattle.diag_tables.specs.Tables.{Outcome, outcome}

pub outcome_tells : (s : List ℕ) (a b : Result NetDiagData Refusal) (P P' : List PrefixEntry) (H H' : List HasRouteEntry) (B B' : List BorderRouterEntry)
    → outcome (decoded_answer s a) P H B ≡ outcome (decoded_answer s b) P' H' B' → (a ≡ b) × (P ≡ P') × (H ≡ H') × (B ≡ B')
outcome_tells s a b P P' H H' B B' e = (
  decoded_tells s a b (ap (λ (x : Outcome). x.answer) e),
  ap (λ (x : Outcome). x.prefixes) e,
  ap (λ (x : Outcome). x.routes) e,
  ap (λ (x : Outcome). x.borders) e,
)
