-- `diag_writing::prefixes::value_size` meets its contract.
use Rattle.diag_writing.proofs.prefixes.value_size.Goals as goal

pub returns : goal.returns
returns c = rw (c.rows_size.ensures.0, c.rows_size-2.ensures.0, c.context_size.ensures.0)
