-- What a diagnostic record and its tables say, wherever their bytes lie, and the entries that it is written as.
-- Assumes nothing.
use Rattle.std.specs.Prelude.{ℕ, List, [], ◌∷◌, ◌++◌, map}
use Rattle.refusal.specs.Answer.{Answer, given, absent, refused, on_given}
use Rattle.wire_bytes.specs.Bytes.{bytes_of}
use Rattle.tlv.specs.Entries.{Content, content}
use Rattle.network_data.specs.Decode.{Prefix}
use Rattle.connectivity.specs.Connectivity.{ConnectivityValue}
use Rattle.route64.specs.Routes.{Route}
use Rattle.diag_values.specs.declared.ModeData.{ModeData}
use Rattle.diag_values.specs.declared.LeaderData.{LeaderData}
use Rattle.diag_values.specs.declared.MacCounters.{MacCounters}
use Rattle.diag_rows.specs.declared.ChildTableEntry.{ChildTableEntry}
use Rattle.network_writing.specs.Encode.{network_bytes}
use Rattle.value_writing.specs.Encode.{mode_bytes, connectivity_bytes, leader_bytes, counters_bytes, route64_bytes, children_bytes, ListValue, list_bytes}

-- each field is given or absent
pub record Values : Type 0 where
  pub ext_mac_addr : Answer (List ℕ)
  pub mac_addr : Answer ℕ
  pub mode : Answer ModeData
  pub timeout : Answer ℕ
  pub connectivity : Answer ConnectivityValue
  pub route64 : Answer Route
  pub leader_data : Answer LeaderData
  pub network_data : Answer (List Prefix)
  pub addresses : Answer (List ℕ)
  pub mac_counters : Answer MacCounters
  pub battery_level : Answer ℕ
  pub supply_voltage : Answer ℕ
  pub child_table : Answer (List ChildTableEntry)
  pub channel_pages : Answer (List ℕ)
  pub type_list : Answer (List ℕ)
  pub eui64 : Answer (List ℕ)
  pub child_lists : List ListValue

-- a type, and the value that is written under it, if one is
pub record Field : Type 0 where
  pub ty : ℕ
  pub value : Answer (List ℕ)

abbrev pub field : (ty : ℕ) → Answer (List ℕ) → Field
field t a = record { ty = t; value = a }

abbrev pub one_byte : ℕ → List ℕ
one_byte x = x ∷ []

-- "types ascending"
abbrev pub fields : Values → List Field
fields v =
    field 0 v.ext_mac_addr ∷ field 1 (on_given (bytes_of 2) v.mac_addr) ∷ field 2 (on_given mode_bytes v.mode) ∷ field 3 (on_given (bytes_of 4) v.timeout)
    ∷ field 4 (on_given connectivity_bytes v.connectivity) ∷ field 5 (on_given route64_bytes v.route64) ∷ field 6 (on_given leader_bytes v.leader_data)
    ∷ field 7 (on_given network_bytes v.network_data) ∷ field 8 v.addresses ∷ field 9 (on_given counters_bytes v.mac_counters)
    ∷ field 14 (on_given one_byte v.battery_level) ∷ field 15 (on_given (bytes_of 2) v.supply_voltage) ∷ field 16 (on_given children_bytes v.child_table)
    ∷ field 17 v.channel_pages ∷ field 18 v.type_list ∷ field 23 v.eui64 ∷ []

unfoldable pub entry_for : ℕ → Answer (List ℕ) → List Content
entry_for t (given x) = content t x ∷ []
entry_for t absent = []
entry_for t (refused n p i) = []

unfoldable pub present : List Field → List Content
present [] = []
present (f ∷ fs) = entry_for f.ty f.value ++ present fs

-- "An address-list table without rows writes no type 30"
abbrev pub list_content : ListValue → Content
list_content l = content 30 (list_bytes l)

-- THE entries of a record
unfoldable pub entries_of : Values → List Content
entries_of v = present (fields v) ++ map list_content v.child_lists
