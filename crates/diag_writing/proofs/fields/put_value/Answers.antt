-- `diag_writing::fields::put_value` meets its contract: there is room for the entry, so it is written.
use Rattle.diag_writing.proofs.Wrote.{entry_wrote}
use Rattle.diag_writing.proofs.fields.put_value.Goals as goal

pub returns : goal.returns
returns c = entry_wrote _ _ _ _ _ _ c.requires.0 c.requires.1 c.put_entry.ensures
