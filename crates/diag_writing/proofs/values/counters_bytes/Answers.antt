-- `diag_writing::values::counters_bytes` meets its contract.
use Rattle.diag_writing.proofs.Counters.{nine}
use Rattle.diag_writing.proofs.values.counters_bytes.Goals as goal

pub returns : goal.returns
returns c =
    nine _ _ _ _ _ _ _ _ _ _ c.u32_bytes-a.ensures c.u32_bytes-b.ensures c.u32_bytes-d.ensures c.u32_bytes-e.ensures
    c.u32_bytes-f.ensures c.u32_bytes-g.ensures c.u32_bytes-h.ensures c.u32_bytes-i.ensures c.u32_bytes-j.ensures
