-- What the decoder says of a payload, wherever in it that stands: the record's fields without their places, and the address lists.
-- Assumes nothing.
use Rattle.std.specs.Prelude.{ℕ, List, map}
use Rattle.refusal.specs.Answer.{Answer, given, absent, refused, on_given}
use Rattle.tlv.specs.Entries.{Entry}
use Rattle.network_data.specs.Decode.{Prefix}
use Rattle.connectivity.specs.Connectivity.{ConnectivityValue}
use Rattle.route64.specs.Routes.{Route}
use Rattle.diag_rows.specs.Rows.{addresses}
use Rattle.diag_values.specs.declared.ModeData.{ModeData}
use Rattle.diag_values.specs.declared.LeaderData.{LeaderData}
use Rattle.diag_values.specs.declared.MacCounters.{MacCounters}
use Rattle.diag_rows.specs.declared.ChildTableEntry.{ChildTableEntry}
use Rattle.diag_entries.specs.Parts.{Said}
use Rattle.diag_entries.specs.Checked.{checked}
use Rattle.diag_entries.specs.Lists.{AddressList, address_lists}
use Rattle.diag.specs.Diag.{NetworkDataValue, Diag, diag}
use Rattle.value_writing.specs.Encode.{ListValue}
use Rattle.record_writing.specs.Values.{Values}

-- a child's addresses, as they are read
pub record Listed : Type 0 where
  pub rloc16 : ℕ
  pub child_id : ℕ
  pub addresses : List (List ℕ)

pub record Reading : Type 0 where
  pub ext_mac_addr : Answer (List ℕ)
  pub mac_addr : Answer ℕ
  pub mode : Answer ModeData
  pub timeout : Answer ℕ
  pub connectivity : Answer ConnectivityValue
  pub route64 : Answer Route
  pub leader_data : Answer LeaderData
  pub network_data : Answer (List Prefix)
  pub addresses : Answer (List (List ℕ))
  pub mac_counters : Answer MacCounters
  pub battery_level : Answer ℕ
  pub supply_voltage : Answer ℕ
  pub child_table : Answer (List ChildTableEntry)
  pub channel_pages : Answer (List ℕ)
  pub type_list : Answer (List ℕ)
  pub eui64 : Answer (List ℕ)
  pub child_lists : List Listed

abbrev pub saying : {A : Type 0} → Answer (Said A) → Answer A
saying a = on_given (λ (x : Said _). x.says) a

abbrev pub unplaced : AddressList → Listed
unplaced l = record { rloc16 = l.rloc16; child_id = l.child_id; addresses = l.addresses.says }

unfoldable pub reading_of : Diag → List AddressList → Reading
reading_of d ls = record {
  ext_mac_addr = saying d.ext_mac_addr;
  mac_addr = d.mac_addr;
  mode = d.mode;
  timeout = d.timeout;
  connectivity = d.connectivity;
  route64 = saying d.route64;
  leader_data = d.leader_data;
  network_data = on_given (λ (x : NetworkDataValue). x.prefixes) (saying d.network_data);
  addresses = saying d.addresses;
  mac_counters = d.mac_counters;
  battery_level = d.battery_level;
  supply_voltage = d.supply_voltage;
  child_table = saying d.child_table;
  channel_pages = saying d.channel_pages;
  type_list = saying d.type_list;
  eui64 = saying d.eui64;
  child_lists = map unplaced ls;
}

-- THE reading of a payload: `decode` and `child_list` of it, with the places left out
unfoldable pub reading : List ℕ → Answer Reading
reading s = on_given (λ (es : List Entry). reading_of (diag es) (address_lists es)) (checked s)

-- ---- what a record says, as a reading

-- a field is given or absent
abbrev pub or_absent : {A : Type 0} → Answer A → Answer A
or_absent (given x) = given x
or_absent absent = absent
or_absent (refused n p i) = absent

abbrev pub listed : ListValue → Listed
listed l = record { rloc16 = l.rloc16; child_id = l.child_id; addresses = addresses l.addresses }

unfoldable pub says : Values → Reading
says v = record {
  ext_mac_addr = or_absent v.ext_mac_addr;
  mac_addr = or_absent v.mac_addr;
  mode = or_absent v.mode;
  timeout = or_absent v.timeout;
  connectivity = or_absent v.connectivity;
  route64 = or_absent v.route64;
  leader_data = or_absent v.leader_data;
  network_data = or_absent v.network_data;
  addresses = or_absent (on_given addresses v.addresses);
  mac_counters = or_absent v.mac_counters;
  battery_level = or_absent v.battery_level;
  supply_voltage = or_absent v.supply_voltage;
  child_table = or_absent v.child_table;
  channel_pages = or_absent v.channel_pages;
  type_list = or_absent v.type_list;
  eui64 = or_absent v.eui64;
  child_lists = map listed v.child_lists;
}
