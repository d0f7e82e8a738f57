-- Route64, by the mask's routers. Document 01: "5: sequence, 8 mask bytes, one route byte for each mask bit set ... Each route byte: outgoing quality 2
-- bits, incoming 2, cost 4."
-- Assumes nothing.
use Rattle.std.specs.Prelude.{ℕ, ◌-◌, ◌/◌, ◌%◌, List, [], ◌∷◌, ◌++◌, length, take, drop, replicate}
use Rattle.refusal.specs.Answer.{Answer, given, absent, refused}
use Rattle.diag_rules.specs.Mask.{byte_at, routers_of}
use Rattle.route64.specs.declared.RouteDataEntry.{RouteDataEntry}
use Rattle.route64.specs.declared.Route64.{Route64}

abbrev pub route_row : (router byte : ℕ) → RouteDataEntry
route_row k b = record { router_id = k; outgoing_link_quality = b / 64 % 4; incoming_link_quality = b / 16 % 4; route_cost = b % 16 }

-- each router with its byte, in order
unfoldable pub rows_of : (routers bytes : List ℕ) → List RouteDataEntry
rows_of [] bs = []
rows_of (k ∷ ks) [] = []
rows_of (k ∷ ks) (b ∷ bs) = route_row k b ∷ rows_of ks bs

unfoldable pub route_rows : List ℕ → List RouteDataEntry
route_rows v = rows_of (routers_of v) (drop 9 v)

pub record Route : Type 0 where
  pub sequence : ℕ
  pub mask : List ℕ
  pub rows : List RouteDataEntry

abbrev pub mask_of : List ℕ → List ℕ
mask_of v = take 8 (drop 1 v)

abbrev pub route_of : List ℕ → Route
route_of v = record { sequence = byte_at v 0; mask = mask_of v; rows = route_rows v }

-- ---- how a Route64 is handed out: its rows from the front of a table of 64 on, zeros after them, and their count

unfoldable pub table : List RouteDataEntry → List RouteDataEntry
table rows = rows ++ replicate (64 - length rows) (route_row 0 0)

unfoldable pub routes : Route → Route64
routes r = record { id_sequence = r.sequence; mask = r.mask; count = length r.rows; route_data = table r.rows }

unfoldable pub zero_routes : Route64
zero_routes = record { id_sequence = 0; mask = replicate 8 0; count = 0; route_data = table [] }

-- the Route64 that is given, or zeros where none is
unfoldable pub laid_out : Answer Route → Route64
laid_out (given r) = routes r
laid_out absent = zero_routes
laid_out (refused n p i) = zero_routes
