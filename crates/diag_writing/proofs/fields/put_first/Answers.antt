-- `diag_writing::fields::put_first` meets its contract: the entries stand one after the other.
use mathlib.Core.Path.{◌∙◌}
use native.Mathlib.Omega.{arith}
use native.Mathlib.Nat.{zero-add}
use Rattle.diag_writing.specs.Pieces.{first_fields}
use Rattle.diag_writing.proofs.Entries.{fields_size, wrote_more, wrote_last}
use Rattle.diag_writing.proofs.fields.put_first.Goals as goal

pub put_part-a-requires : goal.put_part-a-requires
put_part-a-requires c = (c.requires.0, omega (arith, fields_size (first_fields c.args.r c.args.bytes.now)))

pub put_u16-b-requires : goal.put_u16-b-requires
put_u16-b-requires c = omega (arith, fields_size (first_fields c.args.r c.args.bytes.now))

pub put_mode-c-requires : goal.put_mode-c-requires
put_mode-c-requires c = omega (arith, fields_size (first_fields c.args.r c.args.bytes.now))

pub put_u32-requires : goal.put_u32-requires
put_u32-requires c = omega (arith, fields_size (first_fields c.args.r c.args.bytes.now))

pub returns : goal.returns
returns c =
    let all = wrote_more _ _ _ _ _ _ _ _ _ c.put_part-a.ensures (wrote_more _ _ _ _ _ _ _ _ _ c.put_u16-b.ensures (wrote_more _ _ _ _ _ _ _ _ _ c.put_mode-c.ensures (wrote_last _ _ _ _ _ _ c.put_u32.ensures))) in
    (all.0 ∙ zero-add _, all.1)
