-- A record whose numbers are within their widths, as those of the code's types are: no call is handed another.
-- Assumes nothing.
use Rattle.std.specs.Prelude.{◌≡◌, ◌<◌, length}
use Rattle.refusal.specs.Every.{Every}
use Rattle.refusal.specs.Answer.{Answer, given, absent, refused}
use Rattle.connectivity.specs.Connectivity.{ConnectivityValue}
use Rattle.route64.specs.Routes.{Route}
use Rattle.diag_values.specs.declared.LeaderData.{LeaderData}
use Rattle.value_writing.specs.Encode.{ListValue}
use Rattle.value_writing.specs.Fits.{Under, Words}
use Rattle.record_writing.specs.Values.{Values}

-- P of what is given
abbrev pub Given : {A : Type 0} → (A → Type 0) → Answer A → Type 0
Given P (given x) = P x
Given P absent = Unit {0}
Given P (refused n p i) = Unit {0}

pub record Typed (v : Values) : Type 0 where
  pub mac_addr : Under 65536 v.mac_addr
  pub timeout : Under 4294967296 v.timeout
  pub connectivity : Given (λ (c : ConnectivityValue). Under 65536 c.buffer_size) v.connectivity
  pub route64 : Given (λ (r : Route). length r.mask ≡ 8) v.route64
  pub leader_data : Given (λ (l : LeaderData). l.partition_id < 4294967296) v.leader_data
  pub mac_counters : Given Words v.mac_counters
  pub supply_voltage : Under 65536 v.supply_voltage
  pub child_lists : Every (λ (l : ListValue). l.rloc16 < 65536) v.child_lists
