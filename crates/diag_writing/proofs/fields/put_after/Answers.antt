-- `diag_writing::fields::put_after` meets its contract: the entries stand one after the other.
use native.Mathlib.Omega.{arith}
use Rattle.diag_writing.specs.Pieces.{last_fields}
use Rattle.diag_writing.proofs.Entries.{fields_size, wrote_more, wrote_last}
use Rattle.diag_writing.proofs.fields.put_after.Goals as goal

pub put_part-a-requires : goal.put_part-a-requires
put_part-a-requires c = (search c.requires.0, omega (arith, fields_size (last_fields c.args.r c.args.bytes.now)))

pub put_part-b-requires : goal.put_part-b-requires
put_part-b-requires c = (search c.requires.0, omega (arith, fields_size (last_fields c.args.r c.args.bytes.now)))

pub put_part-requires : goal.put_part-requires
put_part-requires c = (search c.requires.0, omega (arith, fields_size (last_fields c.args.r c.args.bytes.now)))

pub returns : goal.returns
returns c =
    wrote_more _ _ _ _ _ _ _ _ _ c.put_part-a.ensures (wrote_more _ _ _ _ _ _ _ _ _ c.put_part-b.ensures (wrote_last _ _ _ _ _ _ c.put_part.ensures))
