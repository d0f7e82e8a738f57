-- `diag_values::decode_leader_data` meets its contract.
use Rattle.diag_values.specs.Values.{leader_of}
use Rattle.diag_rules.proofs.Kept.{read_kept, leader_size}
use Rattle.diag_values.proofs.decode_leader_data.Goals as goal

pub leader_data_of-requires : goal.leader_data_of-requires
leader_data_of-requires c = leader_size _ _ c.in_ok-check_value.ensures

pub returns : goal.returns
returns c = read_kept leader_of _ _ _ c.in_ok-check_value.ensures _ c.leader_data_of.ensures
