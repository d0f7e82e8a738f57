-- `dataset_hex::to_hex` meets its contract: the scratch holds whatever is written afresh. A refusal is for the search.
use Rattle.dataset_hex.proofs.Hexes.{to_hex_given}
use Rattle.dataset_hex.proofs.to_hex.Goals as goal

pub returns : goal.returns
returns c = rw (to_hex_given _ _ _ _ (c.in_ok-n.ensures)) c.encode.ensures
