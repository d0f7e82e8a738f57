-- Lines of request One, computed.
-- Assumes nothing.
use mathlib.Core.Path.{◌≡◌, refl}
use mathlib.Core.Bool.{false}
use mathlib.Core.List.{List, [], ◌∷◌}
use Prim.Native.Nat.{ℕ}
use lib.IntN.{pos}
use Rattle.refusal.specs.Answer.{Answer, given, absent}
use Rattle.refusal.specs.Each.{joined, all, same}
use Rattle.wire_bytes.specs.Bytes.{bytes_of}
use Rattle.tlv_writing.specs.Encode.{header, encode, encode_all, sized}
use Rattle.diag_rules.specs.Mask.{bit_of, routers, routers_of}
use Rattle.network_data.specs.Decode.{Prefix}
use Rattle.network_writing.specs.Encode.{row_items, context_items, inner_items, prefix_value, network_bytes}
use Rattle.connectivity.specs.Connectivity.{ConnectivityValue}
use Rattle.route64.specs.Routes.{Route}
use Rattle.value_writing.specs.Encode.{route64_bytes, ListValue, list_bytes}
use Rattle.value_writing.specs.Fits.{priority_fits, late_fits, connectivity_fits, mask_agrees, route64_fits}
use Rattle.record_writing.specs.Values.{Values, entry_for, present, entries_of}
use Rattle.record_writing.specs.Fits.{passes, values_fit}

-- five fields, and the others absent
abbrev made : Answer ConnectivityValue → Answer Route → Answer (List Prefix) → Answer (List ℕ) → List ListValue → Values
made c r n a l = record {
  ext_mac_addr = absent;
  mac_addr = absent;
  mode = absent;
  timeout = absent;
  connectivity = c;
  route64 = r;
  leader_data = absent;
  network_data = n;
  addresses = a;
  mac_counters = absent;
  battery_level = absent;
  supply_voltage = absent;
  child_table = absent;
  channel_pages = absent;
  type_list = absent;
  eui64 = absent;
  child_lists = l;
}

-- "An address-list table without rows writes no type 30"
no_lists : sized (entries_of (made absent absent absent absent [])) ≡ given []
unfolding sized encode_all entries_of present entry_for
no_lists = refl

-- a list without addresses: `1e 02 28 01`
one_list : sized (entries_of (made absent absent absent absent (record { rloc16 = 10241; child_id = 1; addresses = [] } ∷ []))) ≡ given (30 ∷ 2 ∷ 40 ∷ 1 ∷ [])
unfolding sized encode_all entries_of present entry_for encode header list_bytes bytes_of
one_list = refl

-- Network Data without prefixes: `07 00`
no_prefixes : sized (entries_of (made absent absent (given []) absent [])) ≡ given (7 ∷ 0 ∷ [])
unfolding sized encode_all entries_of present entry_for encode header network_bytes joined
no_prefixes = refl

-- half an address
half : values_fit (made absent absent absent (given (0 ∷ [])) []) ≡ false
unfolding values_fit passes all
half = refl

-- a late field alone
alone : values_fit (made (given record {
  parent_priority = pos 0;
  link_quality3 = 0;
  link_quality2 = 0;
  link_quality1 = 0;
  leader_cost = 0;
  id_sequence = 0;
  active_routers = 0;
  buffer_size = given 7;
  datagram_count = absent;
}) absent absent absent []) ≡ false
unfolding values_fit passes all connectivity_fits priority_fits late_fits
alone = refl

-- a row of router 0 under the mask of router 1
other_router : values_fit (made absent (given record {
  sequence = 0;
  mask = 64 ∷ 0 ∷ 0 ∷ 0 ∷ 0 ∷ 0 ∷ 0 ∷ 0 ∷ [];
  rows = record { router_id = 0; outgoing_link_quality = 0; incoming_link_quality = 0; route_cost = 0 } ∷ [];
}) absent absent []) ≡ false
unfolding values_fit passes all route64_fits mask_agrees same routers_of routers bit_of
other_router = refl

-- routers 0 and 63: `05 0b 07 80 00 00 00 00 00 00 01 9f 24`, document 01's line
two_routers : sized (entries_of (made absent (given record {
  sequence = 7;
  mask = 128 ∷ 0 ∷ 0 ∷ 0 ∷ 0 ∷ 0 ∷ 0 ∷ 1 ∷ [];
  rows =
      record { router_id = 0; outgoing_link_quality = 2; incoming_link_quality = 1; route_cost = 15 }
      ∷ record { router_id = 63; outgoing_link_quality = 0; incoming_link_quality = 2; route_cost = 4 } ∷ [];
}) absent absent [])) ≡ given (5 ∷ 11 ∷ 7 ∷ 128 ∷ 0 ∷ 0 ∷ 0 ∷ 0 ∷ 0 ∷ 0 ∷ 1 ∷ 159 ∷ 36 ∷ [])
unfolding sized encode_all entries_of present entry_for encode header route64_bytes
two_routers = refl

-- one 4-bit prefix: `07 05 02 03 00 04 fd`, document 01's line with the stable bit clear
one_prefix : sized (entries_of (made absent absent (given (record { domain = 0; bits = 4; bytes = 253 ∷ []; context = absent; routes = []; borders = [] } ∷ [])) absent [])) ≡ given (7 ∷ 5 ∷ 2 ∷ 3 ∷ 0 ∷ 4 ∷ 253 ∷ [])
unfolding sized encode_all entries_of present entry_for encode header network_bytes joined prefix_value inner_items row_items context_items
one_prefix = refl
