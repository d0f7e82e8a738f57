-- What a call of `decode` leaves in tables of which only the first records are lent.
-- Assumes nothing.
use Rattle.std.specs.Prelude.{ℕ, List, ◌++◌, take, drop}
use Rattle.network_data.specs.declared.PrefixEntry.{PrefixEntry}
use Rattle.network_data.specs.declared.HasRouteEntry.{HasRouteEntry}
use Rattle.network_data.specs.declared.BorderRouterEntry.{BorderRouterEntry}
use Rattle.diag.specs.Answers.{decoded_answer}
use Rattle.diag_tables.specs.Tables.{Outcome, outcome, decoded}
use Rattle.diag_bridge.specs.declared.Left.{Left}

-- the call on the first p, h and b records of tables
abbrev pub on_parts : List ℕ → List PrefixEntry → ℕ → List HasRouteEntry → ℕ → List BorderRouterEntry → ℕ → Outcome
on_parts s P p H h B b = decoded s (take p P) (take h H) (take b B)

-- and the whole tables after it
abbrev pub left_whole : List ℕ → List PrefixEntry → ℕ → List HasRouteEntry → ℕ → List BorderRouterEntry → ℕ → Outcome
left_whole s P p H h B b =
    outcome (on_parts s P p H h B b).answer ((on_parts s P p H h B b).prefixes ++ drop p P) ((on_parts s P p H h B b).routes ++ drop h H)
    ((on_parts s P p H h B b).borders ++ drop b B)

abbrev pub outcome_of : List ℕ → Left → Outcome
outcome_of s r = outcome (decoded_answer s r.answer) r.tables.prefixes r.tables.has_route r.tables.border_routers
