-- `diag_writing::fields::put_links` meets its contract: the entries stand one after the other.
use native.Mathlib.Omega.{arith}
use Rattle.diag_writing.specs.Pieces.{link_fields}
use Rattle.diag_writing.proofs.Entries.{fields_size, wrote_more, wrote_last}
use Rattle.diag_writing.proofs.fields.put_links.Goals as goal

pub put_connectivity-a-requires : goal.put_connectivity-a-requires
put_connectivity-a-requires c = omega (arith, fields_size (link_fields c.args.r c.args.t))

pub put_route64-b-requires : goal.put_route64-b-requires
put_route64-b-requires c = (c.requires.0, omega (arith, fields_size (link_fields c.args.r c.args.t)))

pub put_leader_data-requires : goal.put_leader_data-requires
put_leader_data-requires c = omega (arith, fields_size (link_fields c.args.r c.args.t))

pub returns : goal.returns
returns c =
    wrote_more _ _ _ _ _ _ _ _ _ c.put_connectivity-a.ensures (wrote_more _ _ _ _ _ _ _ _ _ c.put_route64-b.ensures (wrote_last _ _ _ _ _ _ c.put_leader_data.ensures))
