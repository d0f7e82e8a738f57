-- The code's answers, on paper. A part of the payload s says what the definition says of its bytes.
-- Assumes nothing.
use Rattle.std.specs.Prelude.{ℕ, List, Option, Result}
use Rattle.refusal.specs.Answer.{Answer, on_given}
use Rattle.refusal.specs.Results.{answer_of, option_of}
use Rattle.refusal.specs.declared.Refusal.{Refusal}
use Rattle.network_data.specs.Decode.{contents}
use Rattle.connectivity.specs.Connectivity.{ConnectivityValue}
use Rattle.route64.specs.Routes.{route_of}
use Rattle.diag_rows.specs.Rows.{child_rows, addresses}
use Rattle.connectivity.specs.Answers.{connectivity_paper}
use Rattle.connectivity.specs.declared.Connectivity.{Connectivity}
use Rattle.diag_entries.specs.Parts.{Said}
use Rattle.diag_entries.specs.Answers.{bytes_at, said_at}
use Rattle.diag.specs.Diag.{NetworkDataValue, raw, Diag}
use Rattle.diag.specs.declared.NetDiagData.{NetDiagData}
use Rattle.diag.specs.declared.NetworkDataPart.{NetworkDataPart}

abbrev pub opt_connectivity : Option Connectivity → Answer ConnectivityValue
opt_connectivity x = on_given connectivity_paper (option_of x)

abbrev pub network_paper : List ℕ → NetworkDataPart → Said NetworkDataValue
network_paper s x = record {
  start = x.start;
  len = x.len;
  says = record { prefixes = contents (bytes_at s x.start x.len); counts = x.counts };
}

abbrev pub opt_network_data : List ℕ → Option NetworkDataPart → Answer (Said NetworkDataValue)
opt_network_data s x = on_given (network_paper s) (option_of x)

-- the record that was decoded from s
unfoldable pub diag_of : List ℕ → NetDiagData → Diag
diag_of s r = record {
  ext_mac_addr = on_given (said_at raw s) (option_of r.ext_mac_addr);
  mac_addr = option_of r.mac_addr;
  mode = option_of r.mode;
  timeout = option_of r.timeout;
  connectivity = opt_connectivity r.connectivity;
  route64 = on_given (said_at route_of s) (option_of r.route64);
  leader_data = option_of r.leader_data;
  network_data = opt_network_data s r.network_data;
  addresses = on_given (said_at addresses s) (option_of r.addresses);
  mac_counters = option_of r.mac_counters;
  battery_level = option_of r.battery_level;
  supply_voltage = option_of r.supply_voltage;
  child_table = on_given (said_at child_rows s) (option_of r.child_table);
  channel_pages = on_given (said_at raw s) (option_of r.channel_pages);
  type_list = on_given (said_at raw s) (option_of r.type_list);
  eui64 = on_given (said_at raw s) (option_of r.eui64);
  child_lists = r.child_ipv6_addresses;
}

abbrev pub decoded_answer : List ℕ → Result NetDiagData Refusal → Answer Diag
decoded_answer s r = on_given (diag_of s) (answer_of r)
