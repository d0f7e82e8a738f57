-- `dataset_index::put_slots` meets its contract. The invariant: the types from t on, stored from their place on, make of out what all of them make of it.
use mathlib.Core.Path.{◌≡◌, refl, sym, ap, ◌∙◌}
use native.Mathlib.Omega.{arith}
use Prim.Native.Nat.{◌+◌, ◌-◌, ◌*◌}
use Rattle.refusal.specs.Output.{put}
use Rattle.laws.proofs.Puts.{put_none, put_then}
use Rattle.wire.proofs.Round.{length_bytes}
use Rattle.dataset_index.proofs.Slots.{slots_next, slots_end}
use Rattle.dataset_index.proofs.put_slots.Goals as goal

pub loop-t-init : goal.loop-t-init
loop-t-init c = refl

pub put_u16-middle-requires : goal.put_u16-middle-requires
put_u16-middle-requires c = omega arith

pub put_u16-requires : goal.put_u16-requires
put_u16-requires c = omega (arith, c.put_u16-middle.ensures.0, c.put_u16-middle.auto.out)

pub loop-t-preserved : goal.loop-t-preserved
loop-t-preserved c =
    let x = c.args.x in
    let t = c.loop-t.t in
    let next : 2 + 4 * (t + 1) ≡ c.put_u16-middle.result + 2 = omega (arith, c.put_u16-middle.ensures.0) in
    put_then _ _ _ _ _ _ c.put_u16.ensures.1 (next ∙ ap (◌+◌ _) (sym (length_bytes 2 _)))
    ∙ put_then _ _ _ _ _ _ c.put_u16-middle.ensures.1 (c.put_u16-middle.ensures.0 ∙ ap (◌+◌ _) (sym (length_bytes 2 _)))
    ∙ ap (put _ _) (sym (slots_next x.count x.place t (256 - t) (256 - (t + 1)) (omega arith)))
    ∙ c.loop-t.invariant

pub returns : goal.returns
returns c =
    let x = c.args.x in
    let t = c.loop-t.t in
    sym (put_none _ _) ∙ ap (put _ _) (sym (slots_end x.count x.place t (256 - t) (omega arith))) ∙ c.loop-t.invariant
