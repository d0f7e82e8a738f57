-- `diag_writing::fields::put_middle` meets its contract: the entries stand one after the other.
use native.Mathlib.Omega.{arith}
use Rattle.diag_writing.specs.Pieces.{middle_fields}
use Rattle.diag_writing.proofs.Entries.{fields_size, wrote_more, wrote_last}
use Rattle.diag_writing.proofs.fields.put_middle.Goals as goal

pub put_part-a-requires : goal.put_part-a-requires
put_part-a-requires c = (c.requires.0, omega (arith, fields_size (middle_fields c.args.r c.args.bytes.now)))

pub put_mac_counters-b-requires : goal.put_mac_counters-b-requires
put_mac_counters-b-requires c = omega (arith, fields_size (middle_fields c.args.r c.args.bytes.now))

pub put_u8-c-requires : goal.put_u8-c-requires
put_u8-c-requires c = omega (arith, fields_size (middle_fields c.args.r c.args.bytes.now))

pub put_u16-requires : goal.put_u16-requires
put_u16-requires c = omega (arith, fields_size (middle_fields c.args.r c.args.bytes.now))

pub returns : goal.returns
returns c =
    wrote_more _ _ _ _ _ _ _ _ _ c.put_part-a.ensures (wrote_more _ _ _ _ _ _ _ _ _ c.put_mac_counters-b.ensures (wrote_more _ _ _ _ _ _ _ _ _ c.put_u8-c.ensures (wrote_last _ _ _ _ _ _ c.put_u16.ensures)))
