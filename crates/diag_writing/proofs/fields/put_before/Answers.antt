-- `diag_writing::fields::put_before` meets its contract: the pieces stand one after the other.
use mathlib.Core.Path.{sym, ap, ◌∙◌}
use native.Mathlib.Omega.{arith}
use native.Mathlib.Nat.{zero-add}
use Rattle.diag_writing.proofs.Wrote.{wrote_then}
use Rattle.diag_writing.proofs.Entries.{before_size, starting}
use Rattle.diag_writing.proofs.fields.put_before.Goals as goal

pub put_first-a-requires : goal.put_first-a-requires
put_first-a-requires c = (c.requires.0.ext_mac_addr, omega (arith, before_size c.args.r c.args.bytes.now c.args.t c.args.size))

pub put_links-b-requires : goal.put_links-b-requires
put_links-b-requires c = (c.requires.1, omega (arith, before_size c.args.r c.args.bytes.now c.args.t c.args.size))

pub put_network_header-requires : goal.put_network_header-requires
put_network_header-requires c = (c.requires.2, omega (arith, before_size c.args.r c.args.bytes.now c.args.t c.args.size))

pub returns : goal.returns
returns c =
    let front = c.put_first-a.ensures in
    let all = wrote_then _ 0 _ _ _ _ _ _ (front.0 ∙ sym (zero-add _), front.1) (wrote_then _ _ _ _ _ _ _ _ c.put_links-b.ensures c.put_network_header.ensures) in
    (ap starting (all.0 ∙ zero-add _), all.1)
