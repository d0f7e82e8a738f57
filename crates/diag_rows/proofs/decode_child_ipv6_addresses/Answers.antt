-- `diag_rows::decode_child_ipv6_addresses` meets its contract.
use Rattle.diag_rows.specs.Rows.{address_list_of}
use Rattle.diag_rules.proofs.Kept.{read_kept, list_size}
use Rattle.diag_rows.proofs.decode_child_ipv6_addresses.Goals as goal

pub address_list_of-requires : goal.address_list_of-requires
address_list_of-requires c = list_size _ _ c.in_ok-check_value.ensures

pub returns : goal.returns
returns c = read_kept address_list_of _ _ _ c.in_ok-check_value.ensures _ c.address_list_of.ensures
