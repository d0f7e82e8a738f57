-- `dataset_index::put_slots` meets its contract. The invariant: the types from t on, stored from their place on, make of out what all of them make of it.
use mathlib.Core.Path.{◌≡◌}
use Prim.Native.Nat.{◌+◌, ◌-◌, ◌*◌}
use Rattle.refusal.specs.Output.{put}
use Rattle.dataset_index.specs.Loops.{slots_in}
use Rattle.dataset_index.proofs.put_slots.Given as goal

abbrev pub invariant-loop-t : goal.invariant-loop-t
invariant-loop-t l =
    put l.out (2 + 4 * l.t) (slots_in l.x.count l.x.place l.t (256 - l.t)) ≡ put l.initial.out 2 (slots_in l.x.count l.x.place 0 256)
