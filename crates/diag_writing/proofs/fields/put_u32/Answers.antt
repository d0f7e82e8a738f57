-- `diag_writing::fields::put_u32` meets its contract: an entry where the field is present.
use mathlib.Core.Path.{ap}
use native.Mathlib.Omega.{arith}
use Rattle.wire_bytes.specs.Bytes.{bytes_of}
use Rattle.wire.proofs.Round.{length_bytes}
use Rattle.diag_writing.proofs.Entries.{fixed_room, given_wrote, absent_wrote}
use Rattle.diag_writing.proofs.fields.put_u32.Goals as goal
use Rattle.refusal.specs.Results.{option_of}

pub put_value-requires : goal.put_value-requires
put_value-requires c =
    fixed_room (bytes_of 4) c.args.ty _ c.args.at c.args.out.now _ _ (ap option_of c.in-Some.is) c.u32_bytes-a.ensures _ (length_bytes 4) (omega arith) c.requires

pub returns-in-Some : goal.returns-in-Some
returns-in-Some c = given_wrote (bytes_of 4) _ _ _ _ _ _ (ap option_of c.in-Some.is) c.u32_bytes-a.ensures _ _ c.put_value.ensures

pub returns-in-None : goal.returns-in-None
returns-in-None c = absent_wrote (bytes_of 4) _ _ _ _ (ap option_of c.in-None.is)
