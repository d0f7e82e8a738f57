-- `diag_writing::values::leader_bytes` meets its contract.
use Rattle.wire_bytes.specs.Bytes.{bytes_of}
use Rattle.value_writing.specs.Encode.{leader_bytes}
use Rattle.diag_writing.proofs.values.leader_bytes.Goals as goal

pub returns : goal.returns
unfolding leader_bytes bytes_of
returns c = rw c.u32_bytes-p.ensures
