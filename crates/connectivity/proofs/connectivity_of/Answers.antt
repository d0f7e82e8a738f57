-- `connectivity::connectivity_of` meets its contract.
use mathlib.Core.Path.{◌∙◌}
use mir.ValLaws.{to_z-of_z}
use mir.Syntax.{w8}
use Rattle.connectivity.proofs.Late.{connectivity_is}
use Rattle.connectivity.proofs.connectivity_of.Goals as goal

pub returns : goal.returns
returns c =
    let first = to_z-of_z w8 c.priority.result (record { sfits = c.priority.type_inv }) ∙ c.priority.ensures in
    connectivity_is _ _ _ _ first c.buffer_size.ensures c.datagram_count.ensures
