-- The lent tables after a call: "Rows go into the caller's tables of prefix and route records, in prefix order, a prefix giving only its row
-- counts; records past the reported counts keep their old contents" (document 01), and "Every lent byte and record stays" where it refuses.
-- Assumes nothing.
use Rattle.std.specs.Prelude.{List, ◌++◌, map, length, drop}
use Rattle.refusal.specs.Answer.{Answer, given, absent, refused}
use Rattle.network_data.specs.Decode.{Prefix, entry_of, all_routes, all_borders, counts_of}
use Rattle.network_plans.specs.Planned.{room_for}
use Rattle.network_data.specs.declared.Counts.{Counts}
use Rattle.network_data.specs.declared.PrefixEntry.{PrefixEntry}
use Rattle.network_data.specs.declared.HasRouteEntry.{HasRouteEntry}
use Rattle.network_data.specs.declared.BorderRouterEntry.{BorderRouterEntry}

-- the answer of a call and the three tables as they are left
pub record Outcome : Type 0 where
  pub answer : Answer Counts
  pub prefixes : List PrefixEntry
  pub routes : List HasRouteEntry
  pub borders : List BorderRouterEntry

abbrev pub outcome : Answer Counts → List PrefixEntry → List HasRouteEntry → List BorderRouterEntry → Outcome
outcome a p h b = record { answer = a; prefixes = p; routes = h; borders = b }

-- new records from the first place on
abbrev pub over : {A : Type 0} → List A → List A → List A
over new old = new ++ drop (length new) old

unfoldable pub written : List Prefix → Answer Counts → List PrefixEntry → List HasRouteEntry → List BorderRouterEntry → Outcome
written ps (given c) P H B = outcome (given c) (over (map entry_of ps) P) (over (all_routes ps) H) (over (all_borders ps) B)
written ps absent P H B = outcome absent P H B
written ps (refused n p i) P H B = outcome (refused n p i) P H B

unfoldable pub decoded : Answer (List Prefix) → List PrefixEntry → List HasRouteEntry → List BorderRouterEntry → Outcome
decoded (given ps) P H B = written ps (room_for (counts_of ps) (length P) (length H) (length B)) P H B
decoded absent P H B = outcome absent P H B
decoded (refused n p i) P H B = outcome (refused n p i) P H B
