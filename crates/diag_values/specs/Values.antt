-- What the bytes of a diagnostic value say, for the layouts that are a number or a record (document 01, "Diagnostic values"). They are total: whether
-- a value has the length of its layout is asked first, by the Rule of `diag_rules`.
-- Assumes nothing.
use Rattle.std.specs.Prelude.{ℕ, ◌/◌, ◌%◌, List, take, drop, eqb}
use Rattle.wire.specs.Be.{be}
use Rattle.diag_rules.specs.Mask.{byte_at}
use Rattle.diag_values.specs.declared.ModeData.{ModeData}
use Rattle.diag_values.specs.declared.LeaderData.{LeaderData}
use Rattle.diag_values.specs.declared.MacCounters.{MacCounters}

-- the number that n bytes from the place at on spell
abbrev pub number_at : (n at : ℕ) → List ℕ → ℕ
number_at n at v = be (take n (drop at v))

-- "2, one byte: 0x08 receiver on when idle; 0x02 clear means minimal device; 0x01 wants full Network Data"
abbrev pub mode_of : ℕ → ModeData
mode_of b = record { rx_on_when_idle = eqb (b / 8 % 2) 1; is_mtd = eqb (b / 2 % 2) 0; requires_full_network_data = eqb (b % 2) 1 }

abbrev pub mode_value : List ℕ → ModeData
mode_value v = mode_of (byte_at v 0)

-- "6, 8 bytes: partition u32, four single bytes"
abbrev pub leader_of : List ℕ → LeaderData
leader_of v = record {
  partition_id = number_at 4 0 v;
  weighting = byte_at v 4;
  data_version = byte_at v 5;
  stable_data_version = byte_at v 6;
  router_id = byte_at v 7;
}

-- "9, 36 bytes: nine u32 in 003's order", which is model.rs's
abbrev pub counters_of : List ℕ → MacCounters
counters_of v = record {
  if_in_unknown_protos = number_at 4 0 v;
  if_in_errors = number_at 4 4 v;
  if_out_errors = number_at 4 8 v;
  if_in_ucast_pkts = number_at 4 12 v;
  if_in_broadcast_pkts = number_at 4 16 v;
  if_in_discards = number_at 4 20 v;
  if_out_ucast_pkts = number_at 4 24 v;
  if_out_broadcast_pkts = number_at 4 28 v;
  if_out_discards = number_at 4 32 v;
}
