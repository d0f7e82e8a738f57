-- `address_writing::put_led` meets its contract.
use mathlib.Core.Path.{sym, ap, ◌∙◌}
use Prim.Native.Nat.{◌+◌, ◌≤◌}
use native.Mathlib.Omega.{arith}
use lib.ListN.{length}
use Rattle.refusal.specs.Output.{put}
use Rattle.laws.proofs.Puts.{put_none}
use Rattle.address_writing.proofs.Turns.{led_of, led_end, led_some, led_count, led_put, led_length}
use Rattle.address_writing.proofs.put_led.Goals as goal

pub bounds-out-next : goal.bounds-out-next
bounds-out-next c = omega (arith, led_some c.loop-rest.rest.now c.in-len2-up.len_at_least)

pub loop-rest-preserved : goal.loop-rest-preserved
loop-rest-preserved c =
    let l = c.loop-rest in
    let b = l.rest.now in
    let more = c.in-len2-up.len_at_least in
    let room : l.next + length (led_of b) ≤ length l.out = omega arith in (
      led_length b l.out _ l.next _ more c.put_group-next.ensures room ∙ l.invariant.0,
      led_count b l.out _ l.next _ more c.put_group-next.ensures room ∙ l.invariant.1,
      led_put b l.out _ l.next _ more c.put_group-next.ensures room ∙ l.invariant.2,
    )

pub returns : goal.returns
returns c =
    let l = c.loop-rest in
    let none = led_end l.rest.now c.in_default.len_below in
    (omega (arith, ap length none), sym (put_none _ _) ∙ ap (put _ _) (sym none) ∙ l.invariant.2)
