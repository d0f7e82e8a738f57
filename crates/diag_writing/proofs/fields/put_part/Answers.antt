-- `diag_writing::fields::put_part` meets its contract: an entry where the part is present.
use mathlib.Core.Path.{ap}
use Rattle.refusal.specs.Results.{option_of}
use Rattle.record_writing.specs.Lent.{part_bytes}
use Rattle.diag_writing.proofs.Entries.{given_room, given_wrote, absent_wrote, part_short, part_is}
use Rattle.diag_writing.proofs.fields.put_part.Goals as goal

pub put_value-requires : goal.put_value-requires
put_value-requires c =
    let v = c.args.bytes.now in
    let q = c.in-Some.p in
    given_room (part_bytes v) c.args.ty _ c.args.at c.args.out.now _ _ (ap option_of c.in-Some.is) (part_is v q.start q.len) (part_short v _ q.start q.len (ap option_of c.in-Some.is) c.requires.0) c.requires.1

pub returns-in-Some : goal.returns-in-Some
returns-in-Some c =
    let v = c.args.bytes.now in
    let q = c.in-Some.p in
    given_wrote (part_bytes v) _ _ _ _ _ _ (ap option_of c.in-Some.is) (part_is v q.start q.len) _ _ c.put_value.ensures

pub returns-in-None : goal.returns-in-None
returns-in-None c = absent_wrote (part_bytes c.args.bytes.now) _ _ _ _ (ap option_of c.in-None.is)
