-- `network_tables::prefixes::copy_bytes` meets its contract: the part that is copied is n bytes long. Assumes nothing.
use native.Mathlib.Omega.{arith}
use Rattle.std.proofs.Common.{◌≡◌, ◌+◌, ◌-◌}
use Rattle.network_tables.proofs.Seeks.{padded_part}
use Rattle.network_tables.proofs.prefixes.copy_bytes.Goals as goal

pub returns : goal.returns
returns c =
    let a = c.args in
    let n : a.at + a.n - a.at ≡ a.n = omega arith in
    rw (c.copy_from_slice.ensures.after, n) (padded_part a.s.now a.at a.n c.requires.1)
