-- `connectivity::decode_connectivity` meets its contract.
use Rattle.connectivity.specs.Connectivity.{connectivity_of}
use Rattle.diag_rules.proofs.Kept.{read_kept, connectivity_size}
use Rattle.connectivity.proofs.decode_connectivity.Goals as goal

pub connectivity_of-requires : goal.connectivity_of-requires
connectivity_of-requires c = connectivity_size _ _ c.in_ok-check_value.ensures

pub returns : goal.returns
returns c = read_kept connectivity_of _ _ _ c.in_ok-check_value.ensures _ c.connectivity_of.ensures
