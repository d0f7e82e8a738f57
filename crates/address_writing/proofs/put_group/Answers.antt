-- `address_writing::put_group` meets its contract.
use mathlib.Core.Path.{refl}
use Rattle.address_writing.proofs.Turns.{four_is, group_placed}
use Rattle.address_writing.proofs.put_group.Goals as goal

pub returns : goal.returns
returns c =
    let four = four_is _ _ _ _ _ c.encode.ensures refl in
    group_placed c.leading-skip.result _ _ _ _ _ _ _ _ four c.leading-skip.ensures.1 c.put_bytes.ensures
