-- `diag_writing::fields::put_u8` meets its contract: an entry where the field is present.
use mathlib.Core.Path.{refl, ap}
use native.Mathlib.Omega.{arith}
use Rattle.record_writing.specs.Values.{one_byte}
use Rattle.diag_writing.proofs.Entries.{fixed_room, given_wrote, absent_wrote}
use Rattle.diag_writing.proofs.fields.put_u8.Goals as goal
use Rattle.refusal.specs.Results.{option_of}

pub put_value-requires : goal.put_value-requires
put_value-requires c =
    fixed_room one_byte c.args.ty _ c.args.at c.args.out.now _ _ (ap option_of c.in-Some.is) refl _ (λ z. refl) (omega arith) c.requires

pub returns-in-Some : goal.returns-in-Some
returns-in-Some c = given_wrote one_byte _ _ _ _ _ _ (ap option_of c.in-Some.is) refl _ _ c.put_value.ensures

pub returns-in-None : goal.returns-in-None
returns-in-None c = absent_wrote one_byte _ _ _ _ (ap option_of c.in-None.is)
