-- Which Network Data can be written. Document 02, One: "12 for tables over 01's Network Data sizes; then 15 if a field doesn't fit its bits or a Network
-- Data item its length byte, ... a prefix's bytes aren't its bit length over 8 rounded up".
-- Assumes nothing.
use Rattle.std.specs.Prelude.{ℕ, Bool, true, false, List, length, leb, ltb, eqb}
use Rattle.refusal.specs.Sizes.{most_prefixes, most_has_routes, most_border_routers}
use Rattle.refusal.specs.Answer.{pick, Answer, given, absent, refused}
use Rattle.refusal.specs.Each.{all}
use Rattle.network_framing.specs.Tlvs.{bytes_for}
use Rattle.network_data.specs.Decode.{Prefix, all_routes, all_borders}
use Rattle.network_data.specs.declared.HasRouteEntry.{HasRouteEntry}
use Rattle.network_data.specs.declared.BorderRouterEntry.{BorderRouterEntry}
use Rattle.network_data.specs.declared.SixLowPanContext.{SixLowPanContext}
use Rattle.network_writing.specs.Encode.{prefix_value}

-- the longest value of a TLV of Network Data
abbrev pub most_item : ℕ
most_item = 255

-- "preference 2 bits"
abbrev pub route_fits : HasRouteEntry → Bool
route_fits h = leb h.router_preference 3

abbrev pub border_fits : BorderRouterEntry → Bool
border_fits b = leb b.prefix_preference 3

-- "ID low 4 bits"
unfoldable pub context_fits : Answer SixLowPanContext → Bool
context_fits (given c) = leb c.context_id 15
context_fits absent = true
context_fits (refused n p i) = false

-- a prefix with what it holds. Where its whole value fits a length byte, so does each TLV inside it
unfoldable pub prefix_fits : Prefix → Bool
prefix_fits p =
    pick (eqb (length p.bytes) (bytes_for p.bits))
    (pick (context_fits p.context)
    (pick (all route_fits p.routes)
    (pick (all border_fits p.borders) (leb (length (prefix_value p)) most_item) false) false) false) false

unfoldable pub network_fits : List Prefix → Bool
network_fits ps = all prefix_fits ps

-- 12, "64 prefixes and, over all of them, 96 HasRoute rows and 96 BorderRouter rows", over the prefixes themselves. A hypothesis of the theorems: `write` tests
-- the record's counts (`counts_fit` of record_writing)
unfoldable pub over_sizes : List Prefix → Bool
over_sizes ps =
    pick (ltb most_prefixes (length ps)) true (pick (ltb most_has_routes (length (all_routes ps))) true (ltb most_border_routers (length (all_borders ps))))
