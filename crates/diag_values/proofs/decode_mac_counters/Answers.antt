-- `diag_values::decode_mac_counters` meets its contract.
use Rattle.diag_values.specs.Values.{counters_of}
use Rattle.diag_rules.proofs.Kept.{read_kept, counters_size}
use Rattle.diag_values.proofs.decode_mac_counters.Goals as goal

pub mac_counters_of-requires : goal.mac_counters_of-requires
mac_counters_of-requires c = counters_size _ _ c.in_ok-check_value.ensures

pub returns : goal.returns
returns c = read_kept counters_of _ _ _ c.in_ok-check_value.ensures _ c.mac_counters_of.ensures
