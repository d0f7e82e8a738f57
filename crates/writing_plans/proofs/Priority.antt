-- A Connectivity's priority, read off the machine value of its field.
-- Assumes nothing.
use mathlib.Core.Path.{◌≡◌}
use mathlib.Core.List.{List}
use mir.Syntax.{w8}
use mir.Val.{Val, to_z, of_z}
use mir.ValLaws.{to_z-of_z}
use denote.Laws.{Is}
use denote.Struct.Laws as LL
use Rattle.connectivity.specs.declared.Connectivity.{Connectivity}
use Rattle.connectivity.specs.contracts.Connectivity as C
use Rattle.connectivity.proofs.Connectivity.TheLaws as C'

pub field_back : (c : Connectivity) (vs : List Val) → Is C.the_row c vs → to_z w8 (of_z w8 c.parent_priority) ≡ c.parent_priority
field_back c vs p = to_z-of_z w8 c.parent_priority (record { sfits = (LL.owed C.the_type C'.the_laws c vs p).0.1 })
