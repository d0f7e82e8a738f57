-- `pairing::list_rloc16` meets its contract, by what `decode_child_ipv6_addresses` answered.
use Rattle.pairing.proofs.Ids.{list_rloc_by}
use Rattle.pairing.proofs.list_rloc16.Goals as goal

pub returns-in-Ok : goal.returns-in-Ok
returns-in-Ok c = list_rloc_by _ _ c.in-Ok.ensures

pub returns-in-Err : goal.returns-in-Err
returns-in-Err c = list_rloc_by _ _ c.in-Err.ensures
