-- Network Data as it is written. Document 02, One: "one inner TLV of each kind per prefix, inner types ascending, none where it has no rows. The stable
-- bit is written clear, and reserved bits too." The layouts are document 01's.
-- Assumes nothing.
use Rattle.std.specs.Prelude.{ℕ, ◌+◌, ◌*◌, ◌/◌, ◌%◌, List, [], ◌∷◌, ◌++◌, map, length}
use Rattle.refusal.specs.Answer.{Answer, given, absent, refused}
use Rattle.refusal.specs.Each.{joined, bit}
use Rattle.network_data.specs.Decode.{Prefix}
use Rattle.network_data.specs.declared.HasRouteEntry.{HasRouteEntry}
use Rattle.network_data.specs.declared.BorderRouterEntry.{BorderRouterEntry}
use Rattle.network_data.specs.declared.SixLowPanContext.{SixLowPanContext}

-- a TLV: its first byte, which is "type times 2 plus stable bit", and its value
pub record Item : Type 0 where
  pub mark : ℕ
  pub value : List ℕ

abbrev pub item : (mark : ℕ) → (value : List ℕ) → Item
item m v = record { mark = m; value = v }

-- "a one-byte length". Every field is written with the bits that it has; that nothing is lost is `Fits`
abbrev pub item_bytes : Item → List ℕ
item_bytes i = i.mark ∷ (length i.value % 256) ∷ i.value

abbrev pub items_bytes : List Item → List ℕ
items_bytes is = joined item_bytes is

-- "rows of 3 (RLOC16; preference 2 bits, NAT64 1)"
abbrev pub route_flags : HasRouteEntry → ℕ
route_flags h = h.router_preference % 4 * 64 + bit h.is_nat64 32

unfoldable pub route_bytes : HasRouteEntry → List ℕ
route_bytes h = (h.rloc16 / 256) ∷ (h.rloc16 % 256) ∷ route_flags h ∷ []

-- "rows of 4 (RLOC16; preference 2 bits, then P, S, D, C, R, O; N and DP topmost in the fourth byte)"
abbrev pub border_flags : BorderRouterEntry → ℕ
border_flags b =
    b.prefix_preference % 4 * 64 + bit b.is_preferred 32 + bit b.is_slaac 16 + bit b.is_dhcp 8 + bit b.is_configure 4
    + bit b.is_default_route 2 + bit b.is_on_mesh 1

abbrev pub more_flags : BorderRouterEntry → ℕ
more_flags b = bit b.is_nd_dns 128 + bit b.is_dp 64

unfoldable pub border_bytes : BorderRouterEntry → List ℕ
border_bytes b = (b.rloc16 / 256) ∷ (b.rloc16 % 256) ∷ border_flags b ∷ more_flags b ∷ []

-- "exactly 2 (compress 0x10, ID low 4 bits; context length)"
abbrev pub context_bytes : SixLowPanContext → List ℕ
context_bytes c = (bit c.is_compress 16 + c.context_id % 16) ∷ c.context_length ∷ []

-- "none where it has no rows"
unfoldable pub row_items : {A : Type 0} → (mark : ℕ) → (A → List ℕ) → List A → List Item
row_items m f [] = []
row_items m f (x ∷ xs) = item m (joined f (x ∷ xs)) ∷ []

unfoldable pub context_items : Answer SixLowPanContext → List Item
context_items (given c) = item 6 (context_bytes c) ∷ []
context_items absent = []
context_items (refused n p i) = []

-- "inner types ascending": 0, 2, 3, each times 2
unfoldable pub inner_items : Prefix → List Item
inner_items p = row_items 0 route_bytes p.routes ++ (row_items 4 border_bytes p.borders ++ context_items p.context)

-- "domain, bit length, bit length over 8 rounded up in bytes, then inner TLVs"
unfoldable pub prefix_value : Prefix → List ℕ
prefix_value p = p.domain ∷ p.bits ∷ (p.bytes ++ items_bytes (inner_items p))

-- "Type 1 is a prefix"
abbrev pub prefix_item : Prefix → Item
prefix_item p = item 2 (prefix_value p)

-- THE bytes of Network Data
unfoldable pub network_bytes : List Prefix → List ℕ
network_bytes ps = items_bytes (map prefix_item ps)
