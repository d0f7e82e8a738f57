-- THE definition of what a diagnostic payload says (document 01, "Diagnostic values").
-- Assumes nothing.
use Rattle.std.specs.Prelude.{ℕ, List, length}
use Rattle.refusal.specs.Answer.{Answer, on_given}
use Rattle.wire.specs.Be.{be}
use Rattle.tlv.specs.Entries.{Entry}
use Rattle.network_data.specs.Decode.{Prefix, contents, counts_of}
use Rattle.network_data.specs.declared.Counts.{Counts}
use Rattle.diag_rules.specs.Mask.{byte_at}
use Rattle.diag_values.specs.Values.{mode_value, leader_of, counters_of}
use Rattle.connectivity.specs.Connectivity.{ConnectivityValue, connectivity_of}
use Rattle.route64.specs.Routes.{Route, route_of}
use Rattle.diag_rows.specs.Rows.{child_rows, addresses}
use Rattle.diag_values.specs.declared.ModeData.{ModeData}
use Rattle.diag_values.specs.declared.LeaderData.{LeaderData}
use Rattle.diag_values.specs.declared.MacCounters.{MacCounters}
use Rattle.diag_rows.specs.declared.ChildTableEntry.{ChildTableEntry}
use Rattle.diag_entries.specs.Parts.{Said, last_says, last_part}
use Rattle.diag_entries.specs.Checked.{checked}
use Rattle.diag_entries.specs.Lists.{address_lists}

-- Network Data: its prefixes with their rows, and how many records of each kind that is
pub record NetworkDataValue : Type 0 where
  pub prefixes : List Prefix
  pub counts : Counts

abbrev pub network_data_of : List ℕ → NetworkDataValue
network_data_of v = record { prefixes = contents v; counts = counts_of (contents v) }

-- "any bytes"
abbrev pub raw : List ℕ → List ℕ
raw v = v

abbrev pub byte_of : List ℕ → ℕ
byte_of v = byte_at v 0

pub record Diag : Type 0 where
  pub ext_mac_addr : Answer (Said (List ℕ))
  pub mac_addr : Answer ℕ
  pub mode : Answer ModeData
  pub timeout : Answer ℕ
  pub connectivity : Answer ConnectivityValue
  pub route64 : Answer (Said Route)
  pub leader_data : Answer LeaderData
  pub network_data : Answer (Said NetworkDataValue)
  pub addresses : Answer (Said (List (List ℕ)))
  pub mac_counters : Answer MacCounters
  pub battery_level : Answer ℕ
  pub supply_voltage : Answer ℕ
  pub child_table : Answer (Said (List ChildTableEntry))
  pub channel_pages : Answer (Said (List ℕ))
  pub type_list : Answer (Said (List ℕ))
  pub eui64 : Answer (Said (List ℕ))
  pub child_lists : ℕ

-- "Last of a repeated type counts": of each type what its last value says; of type 30 how many lists there are
unfoldable pub diag : List Entry → Diag
diag es = record {
  ext_mac_addr = last_part 0 raw es;
  mac_addr = last_says 1 be es;
  mode = last_says 2 mode_value es;
  timeout = last_says 3 be es;
  connectivity = last_says 4 connectivity_of es;
  route64 = last_part 5 route_of es;
  leader_data = last_says 6 leader_of es;
  network_data = last_part 7 network_data_of es;
  addresses = last_part 8 addresses es;
  mac_counters = last_says 9 counters_of es;
  battery_level = last_says 14 byte_of es;
  supply_voltage = last_says 15 be es;
  child_table = last_part 16 child_rows es;
  channel_pages = last_part 17 raw es;
  type_list = last_part 18 raw es;
  eui64 = last_part 23 raw es;
  child_lists = length (address_lists es);
}

unfoldable pub decode : List ℕ → Answer Diag
decode s = on_given diag (checked s)
