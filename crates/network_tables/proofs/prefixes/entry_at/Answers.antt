-- `network_tables::prefixes::entry_at` meets its contract: the record is made field by field. Assumes nothing.
use native.Mathlib.Omega.{arith}
use Prim.Native.Nat.{◌+◌}
use Rattle.network_tables.proofs.Seeks.{entry_is}
use Rattle.network_tables.proofs.prefixes.entry_at.Goals as goal

pub overflow_cast-n : goal.overflow_cast-n
overflow_cast-n c = omega (arith, c.type_inv.s (c.args.x.start + 1))

pub overflow_add-n : goal.overflow_add-n
overflow_add-n c = omega (arith, c.type_inv.s (c.args.x.start + 1))

pub copy_bytes-requires : goal.copy_bytes-requires
copy_bytes-requires c = (omega (arith, c.type_inv.s (c.args.x.start + 1)), omega arith)

pub returns : goal.returns
returns c =
    entry_is c.args.s.now c.args.x c.requires _ _ _ _ c.copy_bytes.ensures c.context_in.ensures c.rows_in.ensures c.rows_in-2.ensures
