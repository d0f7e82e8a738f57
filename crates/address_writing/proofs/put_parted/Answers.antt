-- `address_writing::put_parted` meets its contract.
use mathlib.Core.Path.{sym, ap, ◌∙◌}
use native.Mathlib.Omega.{arith}
use lib.ListN.{length}
use Rattle.refusal.specs.Output.{put}
use Rattle.laws.proofs.Puts.{put_none}
use Rattle.address_writing.proofs.Turns.{parted_end, parted_room, parted_done}
use Rattle.address_writing.proofs.put_parted.Goals as goal

pub returns-in_default : goal.returns-in_default
returns-in_default c =
    let none = parted_end c.args.bytes.now c.in_default.len_below in
    (omega (arith, ap length none), sym (put_none _ _) ∙ ap (put _ _) (sym none))

pub put_led-requires : goal.put_led-requires
put_led-requires c =
    let a = c.args in
    parted_room a.bytes.now a.out.now _ a.at _ c.in-len2-up.len_at_least c.put_group-next.ensures c.requires

pub returns : goal.returns
returns c =
    let a = c.args in
    parted_done a.bytes.now a.out.now _ a.at _ c.in-len2-up.len_at_least c.put_group-next.ensures c.requires _ _ c.put_led.ensures.0 c.put_led.ensures.1
