-- `diag_writing::fields::put_child_header` meets its contract: a header where a child table is present.
use mathlib.Core.Path.{ap}
use Rattle.diag_writing.proofs.Entries.{headed_wrote, empty_wrote, child_given, child_absent, child_short}
use Rattle.diag_writing.proofs.fields.put_child_header.Goals as goal
use Rattle.refusal.specs.Results.{option_of}

pub returns-in-Some : goal.returns-in-Some
returns-in-Some c =
    let told = ap option_of c.in-Some.is in
    headed_wrote _ _ _ _ _ _ _ (child_given _ _ told) (child_short _ _ told c.requires.0) c.requires.1 c.put_header.ensures

pub returns-in-None : goal.returns-in-None
returns-in-None c = empty_wrote _ _ _ (child_absent _ (ap option_of c.in-None.is))
