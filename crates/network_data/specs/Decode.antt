-- What a Network Data value holds: its prefixes, each with its rows (document 01, "Diagnostic values", type 7).
-- Assumes nothing.
use Rattle.std.specs.Prelude.{ℕ, zero, suc, ◌+◌, ◌*◌, ◌/◌, ◌%◌, List, [], ◌∷◌, ◌++◌, map, length, get_or, drop, replicate, eqb, ltb, Option, Some, None}
use Rattle.refusal.specs.Sizes.{most_bytes}
use Rattle.refusal.specs.Answer.{pick, Answer, given, absent, refused, on_given}
use Rattle.network_framing.specs.Tlvs.{Piece, opened, domain_of, bits_of, bytes_of}
use Rattle.network_framing.specs.Frame.{part, walk_in, head_at}
use Rattle.network_data.specs.Rules.{counts, check_value}
use Rattle.network_data.specs.declared.Counts.{Counts}
use Rattle.network_data.specs.declared.HasRouteEntry.{HasRouteEntry}
use Rattle.network_data.specs.declared.BorderRouterEntry.{BorderRouterEntry}
use Rattle.network_data.specs.declared.SixLowPanContext.{SixLowPanContext}
use Rattle.network_data.specs.declared.PrefixEntry.{PrefixEntry}

-- "rows of 3 (RLOC16; preference 2 bits, NAT64 1)"
abbrev pub route_at : List ℕ → ℕ → HasRouteEntry
route_at s at = record {
  rloc16 = get_or s at 0 * 256 + get_or s (at + 1) 0;
  router_preference = get_or s (at + 2) 0 / 64;
  is_nat64 = eqb (get_or s (at + 2) 0 / 32 % 2) 1;
}

-- "rows of 4 (RLOC16; preference 2 bits, then P, S, D, C, R, O; N and DP topmost in the fourth byte)"
abbrev pub border_at : List ℕ → ℕ → BorderRouterEntry
border_at s at = record {
  rloc16 = get_or s at 0 * 256 + get_or s (at + 1) 0;
  prefix_preference = get_or s (at + 2) 0 / 64;
  is_preferred = eqb (get_or s (at + 2) 0 / 32 % 2) 1;
  is_slaac = eqb (get_or s (at + 2) 0 / 16 % 2) 1;
  is_dhcp = eqb (get_or s (at + 2) 0 / 8 % 2) 1;
  is_configure = eqb (get_or s (at + 2) 0 / 4 % 2) 1;
  is_default_route = eqb (get_or s (at + 2) 0 / 2 % 2) 1;
  is_on_mesh = eqb (get_or s (at + 2) 0 % 2) 1;
  is_nd_dns = eqb (get_or s (at + 3) 0 / 128) 1;
  is_dp = eqb (get_or s (at + 3) 0 / 64 % 2) 1;
}

-- "exactly 2 (compress 0x10, ID low 4 bits; context length)"
abbrev pub context_at : List ℕ → ℕ → SixLowPanContext
context_at s at = record {
  is_compress = eqb (get_or s at 0 / 16 % 2) 1;
  context_id = get_or s at 0 % 16;
  context_length = get_or s (at + 1) 0;
}

-- the places of n rows of so many bytes from at on
unfoldable pub row_places : (size at n : ℕ) → List ℕ
row_places size at zero = []
row_places size at (suc n) = at ∷ row_places size (at + size) n

-- "Rows of repeated inner TLVs join in order": the places of the rows of all TLVs of a type
unfoldable pub places_in : (ty size : ℕ) → List Piece → List ℕ
places_in ty size [] = []
places_in ty size (e ∷ es) = pick (eqb e.ty ty) (row_places size e.start (e.len / size)) [] ++ places_in ty size es

-- "last counts": the last context among es, or x where there is none. (Each is 2 bytes long in a value that is given)
unfoldable pub last_context : List ℕ → Answer SixLowPanContext → List Piece → Answer SixLowPanContext
last_context s x [] = x
last_context s x (e ∷ es) = last_context s (pick (eqb e.ty 3) (pick (eqb e.len 2) (given (context_at s e.start)) x) x) es

pub record Prefix : Type 0 where
  pub domain : ℕ
  pub bits : ℕ
  pub bytes : List ℕ
  pub context : Answer SixLowPanContext
  pub routes : List HasRouteEntry
  pub borders : List BorderRouterEntry

unfoldable pub head_items : List ℕ → (end : ℕ) → Answer ℕ → List Piece
head_items s end (given at) = (walk_in s at end).items
head_items s end absent = []
head_items s end (refused n p i) = []

-- the inner TLVs of a prefix whose value stands from start to end
unfoldable pub inner : List ℕ → (start end : ℕ) → List Piece
inner s start end = head_items s end (head_at s start end)

unfoldable pub prefix_at : List ℕ → (start end : ℕ) → Prefix
prefix_at s start end = record {
  domain = domain_of (opened (part s start end));
  bits = bits_of (opened (part s start end));
  bytes = bytes_of (opened (part s start end));
  context = last_context s absent (inner s start end);
  routes = map (route_at s) (places_in 0 3 (inner s start end));
  borders = map (border_at s) (places_in 2 4 (inner s start end));
}

-- "Type 1 is a prefix"
unfoldable pub prefixes : List ℕ → List Piece → List Prefix
prefixes s [] = []
prefixes s (e ∷ es) = pick (eqb e.ty 1) (prefix_at s e.start (e.start + e.len) ∷ []) [] ++ prefixes s es

-- what is there, whatever may be refused of it
unfoldable pub contents : List ℕ → List Prefix
contents s = prefixes s (walk_in s 0 (length s)).items

-- a value whose entry stands at a place, which is 0 for a bare value: 1, then 4, 5 and 12
unfoldable pub decode_network_data : (place : ℕ) → List ℕ → Answer (List Prefix)
decode_network_data place s = pick (ltb most_bytes (length s)) (refused 1 0 0) (on_given (λ (c : Counts). contents s) (check_value place s))

-- all rows of a kind, "in prefix order"
unfoldable pub all_routes : List Prefix → List HasRouteEntry
all_routes [] = []
all_routes (p ∷ ps) = p.routes ++ all_routes ps

unfoldable pub all_borders : List Prefix → List BorderRouterEntry
all_borders [] = []
all_borders (p ∷ ps) = p.borders ++ all_borders ps

unfoldable pub counts_of : List Prefix → Counts
counts_of ps = counts (length ps) (length (all_routes ps)) (length (all_borders ps))

-- a prefix's record: its bytes with zeros after them, "a prefix giving only its row counts"
unfoldable pub padded : List ℕ → List ℕ
padded bs = bs ++ drop (length bs) (replicate 32 0)

unfoldable pub opt_context : Answer SixLowPanContext → Option SixLowPanContext
opt_context (given x) = Some x
opt_context absent = None
opt_context (refused n p i) = None

unfoldable pub entry_of : Prefix → PrefixEntry
entry_of p = record {
  domain_id = p.domain;
  prefix_bit_length = p.bits;
  prefix = padded p.bytes;
  six_low_pan_context = opt_context p.context;
  has_routes = length p.routes;
  border_routers = length p.borders;
}
