-- Bytes by value, of which the first are used.
-- Assumes nothing.
use Rattle.std.specs.Prelude.{ℕ, List, take}
use Rattle.diag_writing.specs.declared.linked.ConnectivityBytes.{ConnectivityBytes}

abbrev pub bytes_in : ConnectivityBytes → List ℕ
bytes_in x = take x.len x.bytes
