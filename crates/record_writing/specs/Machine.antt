-- Records and lent tables as the code's types have them: a u16 is below 65536, a u32 below 4294967296, a mask has 8 bytes. The arguments of every call are
-- such; what is said here is as much of it as "Reading what was written gives the record back" (document 02, One) asks for.
-- Assumes nothing.
use Rattle.std.specs.Prelude.{◌≡◌, ◌<◌, length}
use Rattle.refusal.specs.Every.{Every}
use Rattle.refusal.specs.Results.{option_of}
use Rattle.connectivity.specs.Connectivity.{ConnectivityValue}
use Rattle.diag_values.specs.declared.LeaderData.{LeaderData}
use Rattle.diag_rows.specs.declared.ChildIpv6AddrInfo.{ChildIpv6AddrInfo}
use Rattle.diag.specs.Answers.{opt_connectivity}
use Rattle.diag.specs.declared.NetDiagData.{NetDiagData}
use Rattle.value_writing.specs.Fits.{Under, Words}
use Rattle.record_writing.specs.Typed.{Given}
use Rattle.record_writing.specs.Lent.{Lent}

pub record Machine (r : NetDiagData) (l : Lent) : Type 0 where
  pub mac_addr : Under 65536 (option_of r.mac_addr)
  pub timeout : Under 4294967296 (option_of r.timeout)
  pub connectivity : Given (λ (c : ConnectivityValue). Under 65536 c.buffer_size) (opt_connectivity r.connectivity)
  pub mask : length l.route64.mask ≡ 8
  pub leader_data : Given (λ (x : LeaderData). x.partition_id < 4294967296) (option_of r.leader_data)
  pub mac_counters : Given Words (option_of r.mac_counters)
  pub supply_voltage : Under 65536 (option_of r.supply_voltage)
  pub lists : Every (λ (x : ChildIpv6AddrInfo). x.rloc16 < 65536) l.lists
