-- `diag_writing::values::child_bytes` meets its contract.
use Rattle.value_writing.specs.Encode.{child_bytes}
use Rattle.diag_writing.proofs.values.child_bytes.Goals as goal

pub returns : goal.returns
unfolding child_bytes
returns c = rw (c.child_bits-bits.ensures, c.mode_byte.ensures)
