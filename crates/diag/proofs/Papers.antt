-- The meaning of the code's answer tells it apart: the contract of `decode` leaves one record, its parts included, and one refusal.
-- Assumes nothing.
use mathlib.Core.Path.{◌≡◌, refl}
use mathlib.Core.List.{List}
use Prim.Native.Nat.{ℕ}
use Rattle.std.specs.Prelude.{Option}
use Rattle.refusal.specs.Answer.{on_given}
use Rattle.refusal.specs.Results.{option_of}
use Rattle.refusal.proofs.Papers.{Tells, answer_paper_tells, maybe_of, option_back, option_paper_back}
use Rattle.connectivity.specs.Answers.{connectivity_paper}
use Rattle.connectivity.proofs.Papers.{connectivity_from, connectivity_back}
use Rattle.connectivity.specs.declared.Connectivity.{Connectivity}
use Rattle.diag_rows.specs.declared.Part.{Part}
use Rattle.diag_entries.specs.Parts.{Said}
use Rattle.diag_entries.specs.Answers.{said_at}
use Rattle.diag.specs.Diag.{NetworkDataValue, Diag}
use Rattle.diag.specs.Answers.{network_paper, diag_of, decoded_answer}
use Rattle.diag.specs.declared.NetDiagData.{NetDiagData}
use Rattle.diag.specs.declared.NetworkDataPart.{NetworkDataPart}

abbrev part_of : {A : Type 0} → Said A → Part
part_of v = record { start = v.start; len = v.len }

abbrev network_of : Said NetworkDataValue → NetworkDataPart
network_of v = record { start = v.start; len = v.len; counts = v.says.counts }

back_part : {A : Type 0} (f : List ℕ → A) (s : List ℕ) (x : Option Part) → maybe_of (on_given part_of (on_given (said_at f s) (option_of x))) ≡ x
back_part f s x = option_paper_back (said_at f s) part_of (λ a. refl) x

back_connectivity : (x : Option Connectivity) → maybe_of (on_given connectivity_from (on_given connectivity_paper (option_of x))) ≡ x
back_connectivity x = option_paper_back connectivity_paper connectivity_from connectivity_back x

back_network : (s : List ℕ) (x : Option NetworkDataPart) → maybe_of (on_given network_of (on_given (network_paper s) (option_of x))) ≡ x
back_network s x = option_paper_back (network_paper s) network_of (λ a. refl) x

unfoldable data_of : Diag → NetDiagData
data_of v = record {
  ext_mac_addr = maybe_of (on_given part_of v.ext_mac_addr);
  mac_addr = maybe_of v.mac_addr;
  mode = maybe_of v.mode;
  timeout = maybe_of v.timeout;
  connectivity = maybe_of (on_given connectivity_from v.connectivity);
  route64 = maybe_of (on_given part_of v.route64);
  leader_data = maybe_of v.leader_data;
  network_data = maybe_of (on_given network_of v.network_data);
  addresses = maybe_of (on_given part_of v.addresses);
  mac_counters = maybe_of v.mac_counters;
  battery_level = maybe_of v.battery_level;
  supply_voltage = maybe_of v.supply_voltage;
  child_table = maybe_of (on_given part_of v.child_table);
  channel_pages = maybe_of (on_given part_of v.channel_pages);
  type_list = maybe_of (on_given part_of v.type_list);
  eui64 = maybe_of (on_given part_of v.eui64);
  child_ipv6_addresses = v.child_lists;
}

back_data : (s : List ℕ) (x : NetDiagData) → data_of (diag_of s x) ≡ x
unfolding data_of diag_of
back_data s x = simp (back_part, option_back, back_connectivity, back_network)

pub decoded_tells : (s : List ℕ) → Tells (decoded_answer s)
decoded_tells s = answer_paper_tells (diag_of s) data_of (back_data s)
