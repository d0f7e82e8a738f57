-- A record that was read, as it is to be written: that is never refused 12, 15, 13 or 10, and reading it again gives the same record.
-- Assumes nothing.
use Rattle.std.specs.Prelude.{◌≡◌, true, List, map, ℕ, ◌≤◌, length}
use Rattle.refusal.specs.Sizes.{most_value}
use Rattle.refusal.specs.Every.{Every}
use Rattle.refusal.specs.Answer.{given, on_given}
use Rattle.refusal.specs.Each.{joined}
use Rattle.tlv.specs.Entries.{Content}
use Rattle.tlv_writing.specs.Encode.{sized}
use Rattle.value_writing.specs.Encode.{ListValue}
use Rattle.record_writing.specs.Values.{Values, entries_of}
use Rattle.record_writing.specs.Reading.{Listed, Reading, reading}
use Rattle.record_writing.specs.Typed.{Typed}
use Rattle.record_writing.specs.Fits.{tables_fit, values_fit}

-- addresses, one after the other
abbrev pub flat : List (List ℕ) → List ℕ
flat xs = joined (λ (x : List ℕ). x) xs

abbrev pub list_value : Listed → ListValue
list_value l = record { rloc16 = l.rloc16; child_id = l.child_id; addresses = flat l.addresses }

-- the inverse of `says`: the fields as they are
unfoldable pub values_in : Reading → Values
values_in r = record {
  ext_mac_addr = r.ext_mac_addr;
  mac_addr = r.mac_addr;
  mode = r.mode;
  timeout = r.timeout;
  connectivity = r.connectivity;
  route64 = r.route64;
  leader_data = r.leader_data;
  network_data = r.network_data;
  addresses = on_given flat r.addresses;
  mac_counters = r.mac_counters;
  battery_level = r.battery_level;
  supply_voltage = r.supply_voltage;
  child_table = r.child_table;
  channel_pages = r.channel_pages;
  type_list = r.type_list;
  eui64 = r.eui64;
  child_lists = map list_value r.child_lists;
}

-- what was read can be written: not 12, not 15, not 13, not 10; and what is written is read as it was
pub record Again (r : Reading) : Type 0 where
  pub bytes : List ℕ
  pub typed : Typed (values_in r)
  pub tables : tables_fit (values_in r) ≡ true
  pub fits : values_fit (values_in r) ≡ true
  pub short : Every (λ (c : Content). length c.value ≤ most_value) (entries_of (values_in r))
  pub writes : sized (entries_of (values_in r)) ≡ given bytes
  pub reads : reading bytes ≡ given r
