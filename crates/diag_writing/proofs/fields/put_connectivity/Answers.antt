-- `diag_writing::fields::put_connectivity` meets its contract: an entry where the field is present.
use mathlib.Core.Path.{ap, ◌∙◌}
use native.Mathlib.Omega.{arith}
use Rattle.value_writing.specs.Encode.{connectivity_bytes}
use Rattle.diag.specs.Answers.{opt_connectivity}
use Rattle.diag_writing.proofs.Entries.{given_room, given_wrote, absent_wrote, front_is, front_short}
use Rattle.diag_writing.proofs.fields.put_connectivity.Goals as goal

pub slice_bounds-put_value-end : goal.slice_bounds-put_value-end
slice_bounds-put_value-end c = omega (arith, c.connectivity_bytes-b.ensures.1)

pub put_value-requires : goal.put_value-requires
put_value-requires c =
    let few = c.connectivity_bytes-b.ensures.1 in
    given_room connectivity_bytes 4 _ c.args.at c.args.out.now _ _ (ap opt_connectivity c.in-Some.is) (front_is c.connectivity_bytes-b.result.bytes c.connectivity_bytes-b.result.len ∙ c.connectivity_bytes-b.ensures.0)
    (front_short c.connectivity_bytes-b.result.bytes _ c.connectivity_bytes-b.result.len c.connectivity_bytes-b.ensures.0 (omega arith) (omega arith)) c.requires

pub returns-in-Some : goal.returns-in-Some
returns-in-Some c =
    given_wrote connectivity_bytes _ _ _ _ _ _ (ap opt_connectivity c.in-Some.is) (front_is c.connectivity_bytes-b.result.bytes c.connectivity_bytes-b.result.len ∙ c.connectivity_bytes-b.ensures.0) _ _ c.put_value.ensures

pub returns-in-None : goal.returns-in-None
returns-in-None c = absent_wrote connectivity_bytes _ _ _ _ (ap opt_connectivity c.in-None.is)
