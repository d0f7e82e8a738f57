-- The prefixes that three tables say: each takes its rows from the front of what is left of the two row tables.
-- Assumes nothing.
use Rattle.std.specs.Prelude.{ℕ, ◌+◌, List, [], ◌∷◌, take, drop, Option, Some, None}
use Rattle.refusal.specs.Answer.{Answer, given, absent}
use Rattle.network_framing.specs.Tlvs.{bytes_for}
use Rattle.network_data.specs.Decode.{Prefix, padded}
use Rattle.network_data.specs.declared.HasRouteEntry.{HasRouteEntry}
use Rattle.network_data.specs.declared.BorderRouterEntry.{BorderRouterEntry}
use Rattle.network_data.specs.declared.SixLowPanContext.{SixLowPanContext}
use Rattle.network_data.specs.declared.PrefixEntry.{PrefixEntry}

abbrev pub context_of : Option SixLowPanContext → Answer SixLowPanContext
context_of (Some x) = given x
context_of None = absent

-- a prefix's record with its rows; of its fixed array the bytes that its bit length asks for
abbrev pub prefix_of : PrefixEntry → List HasRouteEntry → List BorderRouterEntry → Prefix
prefix_of e hs bs = record {
  domain = e.domain_id;
  bits = e.prefix_bit_length;
  bytes = take (bytes_for e.prefix_bit_length) e.prefix;
  context = context_of e.six_low_pan_context;
  routes = hs;
  borders = bs;
}

unfoldable pub prefixes_of : List PrefixEntry → List HasRouteEntry → List BorderRouterEntry → List Prefix
prefixes_of [] hs bs = []
prefixes_of (e ∷ es) hs bs =
    prefix_of e (take e.has_routes hs) (take e.border_routers bs) ∷ prefixes_of es (drop e.has_routes hs) (drop e.border_routers bs)

-- how many rows they ask for
unfoldable pub routes_asked : List PrefixEntry → ℕ
routes_asked [] = 0
routes_asked (e ∷ es) = e.has_routes + routes_asked es

unfoldable pub borders_asked : List PrefixEntry → ℕ
borders_asked [] = 0
borders_asked (e ∷ es) = e.border_routers + borders_asked es

-- a prefix's record with zeros in the unused places of its array
abbrev pub tidied : PrefixEntry → PrefixEntry
tidied e = record {
  domain_id = e.domain_id;
  prefix_bit_length = e.prefix_bit_length;
  prefix = padded (take (bytes_for e.prefix_bit_length) e.prefix);
  six_low_pan_context = e.six_low_pan_context;
  has_routes = e.has_routes;
  border_routers = e.border_routers;
}
