-- The written payload in the pieces in which the code writes it: no public contract cites them.
-- Assumes nothing.
use Rattle.std.specs.Prelude.{ℕ, ◌+◌, ◌*◌, ◌≤◌, ◌%◌, List, [], ◌∷◌, ◌++◌, length, take, drop, eqb, Option, Some, None}
use Rattle.refusal.specs.Sizes.{most_value, most_has_routes, most_border_routers}
use Rattle.refusal.specs.Answer.{pick, Answer, given, absent, refused, on_given}
use Rattle.refusal.specs.Results.{option_of}
use Rattle.wire_bytes.specs.Bytes.{bytes_of}
use Rattle.tlv_writing.specs.Encode.{header, encode, encode_all}
use Rattle.network_framing.specs.Tlvs.{bytes_for}
use Rattle.network_data.specs.Decode.{Prefix}
use Rattle.network_data.specs.declared.SixLowPanContext.{SixLowPanContext}
use Rattle.network_data.specs.declared.PrefixEntry.{PrefixEntry}
use Rattle.network_data.specs.declared.HasRouteEntry.{HasRouteEntry}
use Rattle.network_data.specs.declared.BorderRouterEntry.{BorderRouterEntry}
use Rattle.route64.specs.declared.Route64.{Route64}
use Rattle.diag_rows.specs.declared.Part.{Part}
use Rattle.diag_rows.specs.declared.ChildIpv6AddrInfo.{ChildIpv6AddrInfo}
use Rattle.diag.specs.Answers.{opt_connectivity}
use Rattle.diag.specs.declared.NetworkDataPart.{NetworkDataPart}
use Rattle.diag.specs.declared.NetDiagData.{NetDiagData}
use Rattle.network_writing.specs.Encode.{item_bytes, items_bytes, context_items, prefix_item}
use Rattle.network_writing.specs.Tables.{context_of, prefix_of}
use Rattle.value_writing.specs.Encode.{mode_bytes, connectivity_bytes, leader_bytes, counters_bytes, route64_bytes, list_bytes}
use Rattle.record_writing.specs.Values.{Field, field, one_byte, entry_for, present}
use Rattle.record_writing.specs.Lent.{part_bytes, route_used, list_of}

-- ---- fields

-- a field that may be missing, as an entry
abbrev pub field_bytes : (ty : ℕ) → Answer (List ℕ) → List ℕ
field_bytes t a = encode_all (entry_for t a)

abbrev pub fields_bytes : List Field → List ℕ
fields_bytes fs = encode_all (present fs)

-- a part that lies in the lent bytes and is not too long for an entry
abbrev pub Lies : List ℕ → Answer Part → Type 0
Lies s (given q) = (q.start + q.len ≤ length s) × (q.len ≤ most_value)
Lies s absent = Unit {0}
Lies s (refused n p i) = Unit {0}

-- types 0 to 3, 4 to 6, 8 to 15, and 17 to 23
abbrev pub first_fields : NetDiagData → List ℕ → List Field
first_fields r s =
    field 0 (on_given (part_bytes s) (option_of r.ext_mac_addr)) ∷ field 1 (on_given (bytes_of 2) (option_of r.mac_addr))
    ∷ field 2 (on_given mode_bytes (option_of r.mode)) ∷ field 3 (on_given (bytes_of 4) (option_of r.timeout)) ∷ []

abbrev pub route_bytes_of : Option Part → Route64 → Answer (List ℕ)
route_bytes_of x t = on_given (λ (q : Part). route64_bytes (route_used t)) (option_of x)

abbrev pub link_fields : NetDiagData → Route64 → List Field
link_fields r t =
    field 4 (on_given connectivity_bytes (opt_connectivity r.connectivity)) ∷ field 5 (route_bytes_of r.route64 t)
    ∷ field 6 (on_given leader_bytes (option_of r.leader_data)) ∷ []

abbrev pub middle_fields : NetDiagData → List ℕ → List Field
middle_fields r s =
    field 8 (on_given (part_bytes s) (option_of r.addresses)) ∷ field 9 (on_given counters_bytes (option_of r.mac_counters))
    ∷ field 14 (on_given one_byte (option_of r.battery_level)) ∷ field 15 (on_given (bytes_of 2) (option_of r.supply_voltage)) ∷ []

abbrev pub last_fields : NetDiagData → List ℕ → List Field
last_fields r s =
    field 17 (on_given (part_bytes s) (option_of r.channel_pages)) ∷ field 18 (on_given (part_bytes s) (option_of r.type_list))
    ∷ field 23 (on_given (part_bytes s) (option_of r.eui64)) ∷ []

-- the headers of the values that tables make: type 7 with so many bytes, and type 16
unfoldable pub network_header : Option NetworkDataPart → (size : ℕ) → List ℕ
network_header (Some x) size = header 7 size
network_header None size = []

unfoldable pub child_header : Answer Part → List ℕ
child_header (given q) = header 16 q.len
child_header absent = []
child_header (refused n p i) = []

-- all before the prefixes; between them and the child rows; between those and the address lists
abbrev pub before_bytes : NetDiagData → List ℕ → Route64 → (size : ℕ) → List ℕ
before_bytes r s t size = fields_bytes (first_fields r s) ++ (fields_bytes (link_fields r t) ++ network_header r.network_data size)

abbrev pub between_bytes : NetDiagData → List ℕ → List ℕ
between_bytes r s = fields_bytes (middle_fields r s) ++ child_header (option_of r.child_table)

abbrev pub after_bytes : NetDiagData → List ℕ → List ℕ
after_bytes r s = fields_bytes (last_fields r s)

-- an address list
abbrev pub list_entry : List ℕ → ChildIpv6AddrInfo → List ℕ
list_entry s x = encode 30 (list_bytes (list_of s x))

abbrev pub ListLies : List ℕ → ChildIpv6AddrInfo → Type 0
ListLies s x = (x.start + x.len ≤ length s) × (2 + x.len ≤ most_value)

-- the routes are in their table of 64, and a child table is not too long for an entry
abbrev pub Counted : Answer Part → Route64 → Type 0
Counted (given q) t = t.count ≤ 64
Counted absent t = Unit {0}
Counted (refused n p i) t = Unit {0}

abbrev pub Short : Answer Part → Type 0
Short (given q) = q.len ≤ most_value
Short absent = Unit {0}
Short (refused n p i) = Unit {0}

-- what can be placed: each part lies in the lent bytes
pub record Placeable (r : NetDiagData) (s : List ℕ) : Type 0 where
  pub ext_mac_addr : Lies s (option_of r.ext_mac_addr)
  pub addresses : Lies s (option_of r.addresses)
  pub channel_pages : Lies s (option_of r.channel_pages)
  pub type_list : Lies s (option_of r.type_list)
  pub eui64 : Lies s (option_of r.eui64)
  pub children : Short (option_of r.child_table)

-- ---- prefixes

-- the bytes of rows that stand in a TLV of their own, with its two bytes; none where there are no rows
unfoldable pub rows_size : (n bytes : ℕ) → ℕ
rows_size n bytes = pick (eqb n 0) 0 (2 + bytes)

unfoldable pub context_size : Option SixLowPanContext → ℕ
context_size (Some x) = 4
context_size None = 0

-- a prefix's value, by its record alone
abbrev pub value_size : PrefixEntry → ℕ
value_size e = 2 + bytes_for e.prefix_bit_length + (rows_size e.has_routes (e.has_routes * 3) + (rows_size e.border_routers (e.border_routers * 4) + context_size e.six_low_pan_context))

-- the two bytes before n rows, which have so many bytes
unfoldable pub rows_mark : (mark n bytes : ℕ) → List ℕ
rows_mark m n bytes = pick (eqb n 0) [] (m ∷ (bytes % 256) ∷ [])

-- a prefix up to its HasRoute rows, between the two kinds of rows, and after them
abbrev pub head_bytes : PrefixEntry → List ℕ
head_bytes e =
    2 ∷ (value_size e % 256) ∷ e.domain_id ∷ e.prefix_bit_length ∷ (take (bytes_for e.prefix_bit_length) e.prefix ++ rows_mark 0 e.has_routes (e.has_routes * 3))

abbrev pub border_mark : PrefixEntry → List ℕ
border_mark e = rows_mark 4 e.border_routers (e.border_routers * 4)

abbrev pub tail_bytes : PrefixEntry → List ℕ
tail_bytes e = items_bytes (context_items (context_of e.six_low_pan_context))

-- a prefix whose rows stand from h and from b on in the two tables
abbrev pub prefix_from : PrefixEntry → List HasRouteEntry → ℕ → List BorderRouterEntry → ℕ → Prefix
prefix_from e hs h bs b = prefix_of e (take e.has_routes (drop h hs)) (take e.border_routers (drop b bs))

abbrev pub prefix_bytes : PrefixEntry → List HasRouteEntry → ℕ → List BorderRouterEntry → ℕ → List ℕ
prefix_bytes e hs h bs b = item_bytes (prefix_item (prefix_from e hs h bs b))

-- few enough rows for its sizes to be counted
abbrev pub Few : PrefixEntry → Type 0
Few e = (e.has_routes ≤ most_has_routes) × (e.border_routers ≤ most_border_routers)
