-- What a record and the tables that are lent with it say. Document 02, One: "a writer from a diagnostic record and its tables to payload bytes". What the
-- record keeps as parts lies in the lent bytes; a table's rows are the first of what is lent, as many as the record counts.
-- Assumes nothing.
use Rattle.std.specs.Prelude.{ℕ, ◌/◌, List, map, take, Option, Some, None}
use Rattle.refusal.specs.Answer.{Answer, given, absent, on_given}
use Rattle.refusal.specs.Results.{option_of}
use Rattle.network_data.specs.Decode.{Prefix}
use Rattle.network_data.specs.declared.Counts.{Counts}
use Rattle.network_data.specs.declared.PrefixEntry.{PrefixEntry}
use Rattle.network_data.specs.declared.HasRouteEntry.{HasRouteEntry}
use Rattle.network_data.specs.declared.BorderRouterEntry.{BorderRouterEntry}
use Rattle.route64.specs.Routes.{Route}
use Rattle.route64.specs.declared.Route64.{Route64}
use Rattle.diag_rows.specs.declared.Part.{Part}
use Rattle.diag_rows.specs.declared.ChildTableEntry.{ChildTableEntry}
use Rattle.diag_rows.specs.declared.ChildIpv6AddrInfo.{ChildIpv6AddrInfo}
use Rattle.diag_entries.specs.Answers.{bytes_at}
use Rattle.diag.specs.Answers.{opt_connectivity}
use Rattle.diag.specs.declared.NetworkDataPart.{NetworkDataPart}
use Rattle.diag.specs.declared.NetDiagData.{NetDiagData}
use Rattle.network_writing.specs.Tables.{prefixes_of}
use Rattle.value_writing.specs.Encode.{ListValue}
use Rattle.record_writing.specs.Values.{Values}

pub record Lent : Type 0 where
  pub bytes : List ℕ
  pub route64 : Route64
  pub prefixes : List PrefixEntry
  pub routes : List HasRouteEntry
  pub borders : List BorderRouterEntry
  pub children : List ChildTableEntry
  pub lists : List ChildIpv6AddrInfo

abbrev pub lent : List ℕ → Route64 → List PrefixEntry → List HasRouteEntry → List BorderRouterEntry → List ChildTableEntry → List ChildIpv6AddrInfo → Lent
lent s t ps hs bs cs ls = record { bytes = s; route64 = t; prefixes = ps; routes = hs; borders = bs; children = cs; lists = ls }

-- the bytes of a part
abbrev pub part_bytes : List ℕ → Part → List ℕ
part_bytes s q = bytes_at s q.start q.len

-- the rows that a Route64 counts
abbrev pub route_used : Route64 → Route
route_used t = record { sequence = t.id_sequence; mask = t.mask; rows = take t.count t.route_data }

abbrev pub opt_counts : Option NetworkDataPart → Answer Counts
opt_counts (Some x) = given x.counts
opt_counts None = absent

abbrev pub network_of : Lent → Counts → List Prefix
network_of l c = prefixes_of (take c.prefixes l.prefixes) (take c.has_routes l.routes) (take c.border_routers l.borders)

-- "rows of 3": a child table of so many bytes has a third as many rows
abbrev pub children_of : List ChildTableEntry → Part → List ChildTableEntry
children_of cs q = take (q.len / 3) cs

abbrev pub list_of : List ℕ → ChildIpv6AddrInfo → ListValue
list_of s x = record { rloc16 = x.rloc16; child_id = x.child_id; addresses = bytes_at s x.start x.len }

unfoldable pub values_of : NetDiagData → Lent → Values
values_of r l = record {
  ext_mac_addr = on_given (part_bytes l.bytes) (option_of r.ext_mac_addr);
  mac_addr = option_of r.mac_addr;
  mode = option_of r.mode;
  timeout = option_of r.timeout;
  connectivity = opt_connectivity r.connectivity;
  route64 = on_given (λ (q : Part). route_used l.route64) (option_of r.route64);
  leader_data = option_of r.leader_data;
  network_data = on_given (network_of l) (opt_counts r.network_data);
  addresses = on_given (part_bytes l.bytes) (option_of r.addresses);
  mac_counters = option_of r.mac_counters;
  battery_level = option_of r.battery_level;
  supply_voltage = option_of r.supply_voltage;
  child_table = on_given (children_of l.children) (option_of r.child_table);
  channel_pages = on_given (part_bytes l.bytes) (option_of r.channel_pages);
  type_list = on_given (part_bytes l.bytes) (option_of r.type_list);
  eui64 = on_given (part_bytes l.bytes) (option_of r.eui64);
  child_lists = map (list_of l.bytes) (take r.child_ipv6_addresses l.lists);
}
