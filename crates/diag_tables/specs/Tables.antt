-- What a diagnostic payload says and the lent tables after the call (document 01): "Rows go into the caller's tables of prefix and route records, in
-- prefix order, a prefix giving only its row counts; records past the reported counts keep their old contents"; where it refuses, "Every lent byte and
-- record stays".
-- Assumes nothing.
use Rattle.std.specs.Prelude.{ℕ, List, [], map, length}
use Rattle.refusal.specs.Answer.{Answer, given, absent, refused, then_do, on_given}
use Rattle.network_data.specs.Decode.{Prefix, entry_of, all_routes, all_borders, counts_of}
use Rattle.network_plans.specs.Planned.{room_for}
use Rattle.network_plans.specs.Tables.{over}
use Rattle.network_data.specs.declared.Counts.{Counts}
use Rattle.network_data.specs.declared.PrefixEntry.{PrefixEntry}
use Rattle.network_data.specs.declared.HasRouteEntry.{HasRouteEntry}
use Rattle.network_data.specs.declared.BorderRouterEntry.{BorderRouterEntry}
use Rattle.diag_entries.specs.Parts.{Said}
use Rattle.diag.specs.Diag.{NetworkDataValue, Diag, decode}

-- the prefixes of a record's Network Data, which is the last of the payload; none where it has no Network Data
unfoldable pub prefixes_in : Answer (Said NetworkDataValue) → List Prefix
prefixes_in (given n) = n.says.prefixes
prefixes_in absent = []
prefixes_in (refused n p i) = []

abbrev pub prefixes_of : Diag → List Prefix
prefixes_of d = prefixes_in d.network_data

-- the record, or 11 where tables of p, h and b places are too short for its rows
unfoldable pub roomed : Diag → (p h b : ℕ) → Answer Diag
roomed d p h b = on_given (λ (c : Counts). d) (room_for (counts_of (prefixes_of d)) p h b)

-- all faults of the payload first
unfoldable pub answered : List ℕ → (p h b : ℕ) → Answer Diag
answered s p h b = then_do (decode s) (λ (d : Diag). roomed d p h b)

-- the answer of a call and the three tables as they are left
pub record Outcome : Type 0 where
  pub answer : Answer Diag
  pub prefixes : List PrefixEntry
  pub routes : List HasRouteEntry
  pub borders : List BorderRouterEntry

abbrev pub outcome : Answer Diag → List PrefixEntry → List HasRouteEntry → List BorderRouterEntry → Outcome
outcome a p h b = record { answer = a; prefixes = p; routes = h; borders = b }

unfoldable pub written : Answer Diag → List PrefixEntry → List HasRouteEntry → List BorderRouterEntry → Outcome
written (given d) P H B =
    outcome (given d) (over (map entry_of (prefixes_of d)) P) (over (all_routes (prefixes_of d)) H) (over (all_borders (prefixes_of d)) B)
written absent P H B = outcome absent P H B
written (refused n p i) P H B = outcome (refused n p i) P H B

unfoldable pub decoded : List ℕ → List PrefixEntry → List HasRouteEntry → List BorderRouterEntry → Outcome
decoded s P H B = written (answered s (length P) (length H) (length B)) P H B
