-- The code's record, on paper.
-- Assumes nothing.
use Rattle.refusal.specs.Results.{option_of}
use Rattle.connectivity.specs.Connectivity.{ConnectivityValue}
use Rattle.connectivity.specs.declared.Connectivity.{Connectivity}

abbrev pub connectivity_paper : Connectivity → ConnectivityValue
connectivity_paper x = record {
  parent_priority = x.parent_priority;
  link_quality3 = x.link_quality_3;
  link_quality2 = x.link_quality_2;
  link_quality1 = x.link_quality_1;
  leader_cost = x.leader_cost;
  id_sequence = x.id_sequence;
  active_routers = x.active_routers;
  buffer_size = option_of x.rx_off_child_buffer_size;
  datagram_count = option_of x.rx_off_child_datagram_count;
}
