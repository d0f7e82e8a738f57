-- `diag_writing::fields::put_mode` meets its contract: an entry where the field is present.
use mathlib.Core.Path.{refl, ap}
use native.Mathlib.Omega.{arith}
use Rattle.value_writing.specs.Encode.{mode_bytes}
use Rattle.record_writing.specs.Values.{one_byte}
use Rattle.diag_writing.proofs.Entries.{fixed_room, given_wrote, absent_wrote}
use Rattle.diag_writing.proofs.fields.put_mode.Goals as goal
use Rattle.refusal.specs.Results.{option_of}

pub put_value-requires : goal.put_value-requires
put_value-requires c =
    fixed_room mode_bytes 2 _ c.args.at c.args.out.now _ _ (ap option_of c.in-Some.is) (ap one_byte c.mode_byte.ensures) _ (λ z. refl) (omega arith) c.requires

pub returns-in-Some : goal.returns-in-Some
returns-in-Some c = given_wrote mode_bytes _ _ _ _ _ _ (ap option_of c.in-Some.is) (ap one_byte c.mode_byte.ensures) _ _ c.put_value.ensures

pub returns-in-None : goal.returns-in-None
returns-in-None c = absent_wrote mode_bytes _ _ _ _ (ap option_of c.in-None.is)
