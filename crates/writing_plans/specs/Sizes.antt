-- How many bytes and entries a record takes.
-- Assumes nothing.
use Rattle.std.specs.Prelude.{ℕ, ◌+◌, ◌*◌, length, leb}
use Rattle.refusal.specs.Sizes.{most_bytes}
use Rattle.refusal.specs.Answer.{pick, Answer, given, absent, refused}
use Rattle.refusal.specs.Results.{option_of}
use Rattle.tlv_writing.specs.Encode.{entry_size}
use Rattle.network_data.specs.declared.Counts.{Counts}
use Rattle.connectivity.specs.Connectivity.{ConnectivityValue}
use Rattle.route64.specs.declared.Route64.{Route64}
use Rattle.diag_rows.specs.declared.Part.{Part}
use Rattle.diag.specs.Answers.{opt_connectivity}
use Rattle.diag.specs.declared.NetDiagData.{NetDiagData}
use Rattle.value_writing.specs.Encode.{connectivity_bytes}
use Rattle.record_writing.specs.Lent.{opt_counts}
use Rattle.writing_walks.specs.declared.Prefixes.{Prefixes}
use Rattle.writing_walks.specs.declared.Lists.{Lists}

-- 1 where there is a value
unfoldable pub one : {A : Type 0} → Answer A → ℕ
one (given x) = 1
one absent = 0
one (refused n p i) = 0

unfoldable pub part_size : Answer Part → ℕ
part_size (given q) = entry_size q.len
part_size absent = 0
part_size (refused n p i) = 0

unfoldable pub connectivity_size : Answer ConnectivityValue → ℕ
connectivity_size (given c) = entry_size (length (connectivity_bytes c))
connectivity_size absent = 0
connectivity_size (refused n p i) = 0

unfoldable pub route_size : Answer Part → Route64 → ℕ
route_size (given q) t = pick (leb t.count 64) (entry_size (9 + t.count)) 0
route_size absent t = 0
route_size (refused n p i) t = 0

unfoldable pub network_size : Answer Counts → (size : ℕ) → ℕ
network_size (given c) size = entry_size size
network_size absent size = 0
network_size (refused n p i) size = 0

unfoldable pub numbers_size : NetDiagData → ℕ
numbers_size r =
    one (option_of r.mac_addr) * 4 + (one (option_of r.mode) * 3 + (one (option_of r.timeout) * 6 + (one (option_of r.leader_data) * 10
    + (one (option_of r.mac_counters) * 38 + (one (option_of r.battery_level) * 3 + one (option_of r.supply_voltage) * 4)))))

unfoldable pub parts_size : NetDiagData → ℕ
parts_size r =
    part_size (option_of r.ext_mac_addr) + (part_size (option_of r.addresses) + (part_size (option_of r.child_table)
    + (part_size (option_of r.channel_pages) + (part_size (option_of r.type_list) + part_size (option_of r.eui64)))))

-- all but Network Data and the address lists
unfoldable pub fixed_size : NetDiagData → Route64 → ℕ
fixed_size r t = numbers_size r + (parts_size r + (connectivity_size (opt_connectivity r.connectivity) + route_size (option_of r.route64) t))

unfoldable pub numbers_count : NetDiagData → ℕ
numbers_count r =
    one (option_of r.mac_addr) + (one (option_of r.mode) + (one (option_of r.timeout) + (one (option_of r.leader_data)
    + (one (option_of r.mac_counters) + (one (option_of r.battery_level) + one (option_of r.supply_voltage))))))

unfoldable pub parts_count : NetDiagData → ℕ
parts_count r =
    one (option_of r.ext_mac_addr) + (one (option_of r.addresses) + (one (option_of r.child_table) + (one (option_of r.channel_pages)
    + (one (option_of r.type_list) + one (option_of r.eui64)))))

-- all but the address lists
unfoldable pub fixed_count : NetDiagData → ℕ
fixed_count r =
    numbers_count r + (parts_count r + (one (opt_connectivity r.connectivity) + (one (option_of r.route64) + one (opt_counts r.network_data))))

-- once the prefixes or the lists alone are over the size of a payload, so is this
unfoldable pub total_size : NetDiagData → Route64 → Prefixes → Lists → ℕ
total_size r t f ls =
    pick (leb f.size most_bytes)
    (pick (leb ls.size most_bytes) (fixed_size r t + (network_size (opt_counts r.network_data) f.size + ls.size)) ls.size) f.size
