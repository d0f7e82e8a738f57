-- `diag_writing::fields::put_network_header` meets its contract: a header where Network Data is present.
use Rattle.diag_writing.proofs.Entries.{headed_wrote, empty_wrote, network_given, network_absent}
use Rattle.diag_writing.proofs.fields.put_network_header.Goals as goal

pub returns-in-Some : goal.returns-in-Some
returns-in-Some c = headed_wrote _ _ _ _ _ _ _ (network_given _ _ _ c.in-Some.is) c.requires.0 c.requires.1 c.put_header.ensures

pub returns-in-None : goal.returns-in-None
returns-in-None c = empty_wrote _ _ _ (network_absent _ _ c.in-None.is)
