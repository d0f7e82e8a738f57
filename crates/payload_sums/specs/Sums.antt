-- What a diagnostic record says as one number, for a caller in another language: the sum of all its fields, modulo 2^64.
-- Assumes nothing.
use Rattle.std.specs.Prelude.{ℕ, [], ◌∷◌, ℤ, eqb}
use Rattle.std.specs.Int.{w8}
use Rattle.std.proofs.Common.{of_z}
use Rattle.refusal.specs.Answer.{pick, Answer, given, absent, refused}
use Rattle.connectivity.specs.Connectivity.{ConnectivityValue}
use Rattle.diag_rows.specs.declared.Part.{Part}
use Rattle.diag_values.specs.declared.LeaderData.{LeaderData}
use Rattle.diag_values.specs.declared.MacCounters.{MacCounters}
use Rattle.diag_entries.specs.Parts.{Said}
use Rattle.diag.specs.Diag.{NetworkDataValue, Diag}
use Rattle.value_sums.specs.Sums.{onto, mode_sum, counts_sum}

-- a field that is missing counts 0
abbrev pub or_zero : {A : Type 0} → (A → ℕ) → Answer A → ℕ
or_zero f (given x) = f x
or_zero f absent = 0
or_zero f (refused n p i) = 0

abbrev pub number : Answer ℕ → ℕ
number a = or_zero (λ n. n) a

-- a priority of 1, 0, -1 or another, by the byte that stands for it
abbrev pub rank : ℤ → ℕ
rank p = pick (eqb (of_z w8 p) 1) 1 (pick (eqb (of_z w8 p) 0) 2 (pick (eqb (of_z w8 p) 255) 3 4))

abbrev pub connectivity_sum : ConnectivityValue → ℕ
connectivity_sum c =
    onto 0
    (rank c.parent_priority
    ∷ c.link_quality3 ∷ c.link_quality2 ∷ c.link_quality1 ∷ c.leader_cost ∷ c.id_sequence ∷ c.active_routers ∷ number c.buffer_size ∷ number c.datagram_count ∷ [])

abbrev pub leader_sum : LeaderData → ℕ
leader_sum l = onto 0 (l.partition_id ∷ l.weighting ∷ l.data_version ∷ l.stable_data_version ∷ l.router_id ∷ [])

abbrev pub counters_sum : MacCounters → ℕ
counters_sum c =
    onto 0
    (c.if_in_unknown_protos
    ∷ c.if_in_errors
    ∷ c.if_out_errors
    ∷ c.if_in_ucast_pkts
    ∷ c.if_in_broadcast_pkts
    ∷ c.if_in_discards
    ∷ c.if_out_ucast_pkts
    ∷ c.if_out_broadcast_pkts
    ∷ c.if_out_discards
    ∷ [])

-- Network Data counts its records
abbrev pub network_sum : Said NetworkDataValue → ℕ
network_sum x = counts_sum x.says.counts

-- a part of the payload counts its bytes
abbrev pub part_len : Part → ℕ
part_len p = p.len

abbrev pub size : {A : Type 0} → Answer (Said A) → ℕ
size {A} a = or_zero (λ (x : Said A). x.len) a

-- a record: the values that are read in it, and those that stay in the payload as they are
unfoldable pub values_sum : Diag → ℕ
values_sum d =
    onto 0
    (number d.mac_addr
    ∷ number d.timeout
    ∷ number d.battery_level
    ∷ number d.supply_voltage
    ∷ or_zero mode_sum d.mode
    ∷ or_zero leader_sum d.leader_data
    ∷ or_zero network_sum d.network_data
    ∷ or_zero connectivity_sum d.connectivity
    ∷ or_zero counters_sum d.mac_counters
    ∷ [])

unfoldable pub parts_sum : Diag → ℕ
parts_sum d = onto 0 (d.child_lists ∷ size d.ext_mac_addr ∷ size d.channel_pages ∷ size d.type_list ∷ size d.eui64 ∷ [])
