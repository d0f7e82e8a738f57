-- The values of a diagnostic payload as they are written, by the layouts of document 01, "Diagnostic values"; document 02, One: "reserved bits" are written
-- clear.
-- Assumes nothing.
use Rattle.std.specs.Prelude.{ℕ, ◌+◌, ◌-◌, ◌*◌, ◌/◌, ◌%◌, not, List, [], ◌∷◌, ◌++◌, map, ℤ, pos, negsuc, leb}
use Rattle.refusal.specs.Answer.{pick, Answer, given, absent, refused}
use Rattle.refusal.specs.Each.{joined, bit}
use Rattle.wire_bytes.specs.Bytes.{bytes_of}
use Rattle.connectivity.specs.Connectivity.{ConnectivityValue}
use Rattle.route64.specs.Routes.{Route}
use Rattle.diag_values.specs.declared.ModeData.{ModeData}
use Rattle.diag_values.specs.declared.LeaderData.{LeaderData}
use Rattle.diag_values.specs.declared.MacCounters.{MacCounters}
use Rattle.diag_rows.specs.declared.ChildTableEntry.{ChildTableEntry}
use Rattle.route64.specs.declared.RouteDataEntry.{RouteDataEntry}

-- Every field is written with the bits that it has; that nothing is lost is `Fits`.

-- "0x08 receiver on when idle; 0x02 clear means minimal device; 0x01 wants full Network Data"
abbrev pub mode_byte : ModeData → ℕ
mode_byte m = bit m.rx_on_when_idle 8 + bit (not m.is_mtd) 2 + bit m.requires_full_network_data 1

abbrev pub mode_bytes : ModeData → List ℕ
mode_bytes m = mode_byte m ∷ []

-- "top two bits of the first give priority (01: 1, 00: 0, 11: -1, 10: -2)"
unfoldable pub priority_bits : ℤ → ℕ
priority_bits (pos n) = pick (leb n 1) n 0
priority_bits (negsuc n) = pick (leb n 1) (3 - n) 0

-- "a u16 and a byte follow", or neither
unfoldable pub late_bytes : Answer ℕ → Answer ℕ → List ℕ
late_bytes (given b) (given d) = bytes_of 2 b ++ (d ∷ [])
late_bytes (given b) absent = []
late_bytes (given b) (refused n p i) = []
late_bytes absent d = []
late_bytes (refused n p i) d = []

unfoldable pub connectivity_bytes : ConnectivityValue → List ℕ
connectivity_bytes c =
    (priority_bits c.parent_priority * 64) ∷ c.link_quality3 ∷ c.link_quality2 ∷ c.link_quality1 ∷ c.leader_cost ∷ c.id_sequence ∷ c.active_routers
    ∷ late_bytes c.buffer_size c.datagram_count

-- "partition u32, four single bytes"
unfoldable pub leader_bytes : LeaderData → List ℕ
leader_bytes l = bytes_of 4 l.partition_id ++ (l.weighting ∷ l.data_version ∷ l.stable_data_version ∷ l.router_id ∷ [])

-- "nine u32 in 003's order"
abbrev pub counter_list : MacCounters → List ℕ
counter_list c =
    c.if_in_unknown_protos ∷ c.if_in_errors ∷ c.if_out_errors ∷ c.if_in_ucast_pkts ∷ c.if_in_broadcast_pkts ∷ c.if_in_discards
    ∷ c.if_out_ucast_pkts ∷ c.if_out_broadcast_pkts ∷ c.if_out_discards ∷ []

unfoldable pub counters_bytes : MacCounters → List ℕ
counters_bytes c = joined (bytes_of 4) (counter_list c)

-- "outgoing quality 2 bits, incoming 2, cost 4"
abbrev pub route_byte : RouteDataEntry → ℕ
route_byte r = r.outgoing_link_quality % 4 * 64 + r.incoming_link_quality % 4 * 16 + r.route_cost % 16

-- "sequence, 8 mask bytes, one route byte for each mask bit set"
unfoldable pub route64_bytes : Route → List ℕ
route64_bytes r = r.sequence ∷ (r.mask ++ map route_byte r.rows)

-- "exponent 5 bits, quality 2, child ID 9, mode byte"
abbrev pub child_bits : ChildTableEntry → ℕ
child_bits c = c.timeout_exponent % 32 * 2048 + c.incoming_link_quality % 4 * 512 + c.child_id % 512

unfoldable pub child_bytes : ChildTableEntry → List ℕ
child_bytes c = (child_bits c / 256) ∷ (child_bits c % 256) ∷ mode_byte c.mode ∷ []

unfoldable pub children_bytes : List ChildTableEntry → List ℕ
children_bytes cs = joined child_bytes cs

-- a child's addresses, as they are to be written: "RLOC16, then the same" (whole addresses)
pub record ListValue : Type 0 where
  pub rloc16 : ℕ
  pub child_id : ℕ
  pub addresses : List ℕ

unfoldable pub list_bytes : ListValue → List ℕ
list_bytes l = bytes_of 2 l.rloc16 ++ l.addresses
