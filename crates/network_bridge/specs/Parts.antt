-- What a call of `decode` leaves in tables of which only the first records are lent.
-- Assumes nothing.
use Rattle.std.specs.Prelude.{ℕ, List, ◌++◌, take, drop, min}
use Rattle.refusal.specs.Answer.{Answer}
use Rattle.refusal.specs.Results.{answer_of}
use Rattle.network_data.specs.Decode.{Prefix}
use Rattle.network_plans.specs.Tables.{Outcome, outcome, decoded}
use Rattle.network_data.specs.declared.PrefixEntry.{PrefixEntry}
use Rattle.network_data.specs.declared.HasRouteEntry.{HasRouteEntry}
use Rattle.network_data.specs.declared.BorderRouterEntry.{BorderRouterEntry}
use Rattle.network_bridge.specs.declared.Decoded.{Decoded}

-- a table here has 128 records
abbrev pub places : ℕ
places = 128

-- so many of them are lent: all where more are asked for
abbrev pub lent_of : ℕ → ℕ
lent_of n = min n places

-- the call on the first p, h and b records of tables
abbrev pub on_parts : Answer (List Prefix) → List PrefixEntry → ℕ → List HasRouteEntry → ℕ → List BorderRouterEntry → ℕ → Outcome
on_parts d P p H h B b = decoded d (take p P) (take h H) (take b B)

-- and the whole tables after it
abbrev pub left_whole : Answer (List Prefix) → List PrefixEntry → ℕ → List HasRouteEntry → ℕ → List BorderRouterEntry → ℕ → Outcome
left_whole d P p H h B b =
    outcome (on_parts d P p H h B b).answer ((on_parts d P p H h B b).prefixes ++ drop p P) ((on_parts d P p H h B b).routes ++ drop h H)
    ((on_parts d P p H h B b).borders ++ drop b B)

abbrev pub outcome_of : Decoded → Outcome
outcome_of r = outcome (answer_of r.answer) r.tables.prefixes r.tables.has_route r.tables.border_routers
