-- The record that `speed_write` writes, made of a number n, and the tables that are lent with it, in which all rows are alike.
-- Assumes nothing.
use Rattle.std.specs.Prelude.{ℕ, ◌+◌, ◌*◌, true, false, List, replicate, pos, eqb, Some, None}
use Rattle.refusal.specs.Sizes.{most_prefixes}
use Rattle.refusal.specs.Answer.{pick, on_given}
use Rattle.diag_rules.specs.Rule.{value_of}
use Rattle.route64.specs.Routes.{route_of, laid_out}
use Rattle.route64.specs.declared.Route64.{Route64}
use Rattle.diag_values.specs.declared.ModeData.{ModeData}
use Rattle.diag_values.specs.declared.LeaderData.{LeaderData}
use Rattle.diag_values.specs.declared.MacCounters.{MacCounters}
use Rattle.connectivity.specs.declared.Connectivity.{Connectivity}
use Rattle.network_data.specs.Rules.{counts}
use Rattle.network_data.specs.declared.PrefixEntry.{PrefixEntry}
use Rattle.network_data.specs.declared.HasRouteEntry.{HasRouteEntry}
use Rattle.network_data.specs.declared.BorderRouterEntry.{BorderRouterEntry}
use Rattle.diag_rows.specs.Rows.{part}
use Rattle.diag_rows.specs.declared.ChildTableEntry.{ChildTableEntry}
use Rattle.diag_rows.specs.declared.ChildIpv6AddrInfo.{ChildIpv6AddrInfo}
use Rattle.diag.specs.declared.NetworkDataPart.{NetworkDataPart}
use Rattle.diag.specs.declared.NetDiagData.{NetDiagData}
use Rattle.network_bridge.specs.Parts.{places}
use Rattle.network_bridge.specs.declared.Tables.{Tables}
use Rattle.record_writing.specs.Lent.{Lent}
use Rattle.writing_bridge.specs.Places.{child_places, list_places, at_most, lent_by}
use Rattle.writing_bridge.specs.declared.Rows.{Rows}
use Rattle.writing_bridge.specs.declared.Lengths.{Lengths}

-- ---- the record

-- a number of four bytes from one of a byte
abbrev pub spread : ℕ → ℕ
spread n = n * 16777619

abbrev pub one_mode : ModeData
one_mode = record { rx_on_when_idle = true; is_mtd = false; requires_full_network_data = true }

abbrev pub links_of : ℕ → Connectivity
links_of n = record {
  parent_priority = pos 1;
  link_quality_3 = n;
  link_quality_2 = n;
  link_quality_1 = n;
  leader_cost = n;
  id_sequence = n;
  active_routers = n;
  rx_off_child_buffer_size = Some n;
  rx_off_child_datagram_count = Some n;
}

abbrev pub leader_of : ℕ → LeaderData
leader_of n = record { partition_id = spread n; weighting = n; data_version = n; stable_data_version = n; router_id = n }

abbrev pub counters_of : ℕ → MacCounters
counters_of n = record {
  if_in_unknown_protos = spread n;
  if_in_errors = spread n + 1;
  if_out_errors = spread n + 2;
  if_in_ucast_pkts = spread n + 3;
  if_in_broadcast_pkts = spread n + 4;
  if_in_discards = spread n + 5;
  if_out_ucast_pkts = spread n + 6;
  if_out_broadcast_pkts = spread n + 7;
  if_out_discards = spread n + 8;
}

-- n prefixes, or the most that there may be
abbrev pub prefixes_for : ℕ → ℕ
prefixes_for n = at_most n most_prefixes

-- and a row of each kind for each
abbrev pub network_of : ℕ → NetworkDataPart
network_of n = record { start = 0; len = 0; counts = counts (prefixes_for n) (prefixes_for n) (prefixes_for n) }

-- every field, with n addresses, 9 n children, and n address lists
abbrev pub full_of : ℕ → NetDiagData
full_of n = record {
  ext_mac_addr = Some (part 0 8);
  mac_addr = Some n;
  mode = Some one_mode;
  timeout = Some (spread n);
  connectivity = Some (links_of n);
  route64 = Some (part 0 0);
  leader_data = Some (leader_of n);
  network_data = Some (network_of n);
  addresses = Some (part 0 (n * 16));
  mac_counters = Some (counters_of n);
  battery_level = Some n;
  supply_voltage = Some n;
  child_table = Some (part 0 (n * 27));
  channel_pages = Some (part 0 4);
  type_list = Some (part 0 17);
  eui64 = Some (part 0 8);
  child_ipv6_addresses = n;
}

abbrev pub no_field : NetDiagData
no_field = record {
  ext_mac_addr = None;
  mac_addr = None;
  mode = None;
  timeout = None;
  connectivity = None;
  route64 = None;
  leader_data = None;
  network_data = None;
  addresses = None;
  mac_counters = None;
  battery_level = None;
  supply_voltage = None;
  child_table = None;
  channel_pages = None;
  type_list = None;
  eui64 = None;
  child_ipv6_addresses = 0;
}

-- nothing at all for 0
unfoldable pub record_of : ℕ → NetDiagData
record_of n = pick (eqb n 0) no_field (full_of n)

-- ---- the tables

abbrev pub one_prefix : PrefixEntry
one_prefix = record {
  domain_id = 3;
  prefix_bit_length = 64;
  prefix = replicate 32 32;
  six_low_pan_context = Some (record { is_compress = true; context_id = 1; context_length = 64 });
  has_routes = 1;
  border_routers = 1;
}

abbrev pub one_route : HasRouteEntry
one_route = record { rloc16 = 4660; router_preference = 1; is_nat64 = true }

abbrev pub one_border : BorderRouterEntry
one_border = record {
  rloc16 = 13398;
  prefix_preference = 1;
  is_preferred = true;
  is_slaac = false;
  is_dhcp = true;
  is_configure = false;
  is_default_route = true;
  is_on_mesh = true;
  is_nd_dns = false;
  is_dp = true;
}

unfoldable pub tables_of : Tables
tables_of = record { prefixes = replicate places one_prefix; has_route = replicate places one_route; border_routers = replicate places one_border }

abbrev pub one_child : ChildTableEntry
one_child = record { timeout_exponent = 12; incoming_link_quality = 3; child_id = 300; mode = one_mode }

-- three addresses
abbrev pub one_list : ChildIpv6AddrInfo
one_list = record { rloc16 = 9217; child_id = 1; start = 0; len = 48 }

unfoldable pub rows_of : Rows
rows_of = record { children = replicate child_places one_child; lists = replicate list_places one_list }

-- every row
abbrev pub all_lent : Lengths
all_lent = record { prefixes = places; has_route = places; border_routers = places; children = child_places; lists = list_places }

-- the Route64 of a value, as its decoder hands it out
abbrev pub route_in : List ℕ → Route64
route_in v = laid_out (on_given route_of (value_of 5 0 v))

-- all that is lent
abbrev pub lent_with : (routes bytes : List ℕ) → Lent
lent_with v s = lent_by s (route_in v) tables_of rows_of all_lent
