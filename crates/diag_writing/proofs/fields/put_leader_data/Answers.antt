-- `diag_writing::fields::put_leader_data` meets its contract: an entry where the field is present.
use mathlib.Core.Path.{ap}
use native.Mathlib.Omega.{arith}
use Rattle.value_writing.specs.Encode.{leader_bytes}
use Rattle.value_writing.proofs.Round.{leader_size}
use Rattle.diag_writing.proofs.Entries.{fixed_room, given_wrote, absent_wrote}
use Rattle.diag_writing.proofs.fields.put_leader_data.Goals as goal
use Rattle.refusal.specs.Results.{option_of}

pub put_value-requires : goal.put_value-requires
put_value-requires c =
    fixed_room leader_bytes 6 _ c.args.at c.args.out.now _ _ (ap option_of c.in-Some.is) c.leader_bytes-a.ensures _ leader_size (omega arith) c.requires

pub returns-in-Some : goal.returns-in-Some
returns-in-Some c = given_wrote leader_bytes _ _ _ _ _ _ (ap option_of c.in-Some.is) c.leader_bytes-a.ensures _ _ c.put_value.ensures

pub returns-in-None : goal.returns-in-None
returns-in-None c = absent_wrote leader_bytes _ _ _ _ (ap option_of c.in-None.is)
