-- `diag_writing::fields::put_between` meets its contract: the entries stand before the header.
use native.Mathlib.Omega.{arith}
use Rattle.diag_writing.proofs.Wrote.{wrote_then}
use Rattle.diag_writing.proofs.Entries.{between_size}
use Rattle.diag_writing.proofs.fields.put_between.Goals as goal

pub put_middle-a-requires : goal.put_middle-a-requires
put_middle-a-requires c = (c.requires.0.addresses, omega (arith, between_size c.args.r c.args.bytes.now))

pub put_child_header-requires : goal.put_child_header-requires
put_child_header-requires c = (c.requires.0.children, omega (arith, between_size c.args.r c.args.bytes.now))

pub returns : goal.returns
returns c = wrote_then _ _ _ _ _ _ _ _ c.put_middle-a.ensures c.put_child_header.ensures
