-- `writing_plans::routers::mask_agrees` meets its contract. The invariant: the rows from n on are the routers that are to come where all the rows are the mask's.
use mathlib.Core.Path.{◌≡◌}
use mathlib.Core.List.{◌∷◌}
use Prim.Native.Nat.{◌+◌, ◌-◌, ◌*◌, ◌≤◌, ◌<◌}
use Rattle.diag_rules.proofs.Bits.{to_come}
use Rattle.value_writing.specs.Fits.{mask_agrees}
use Rattle.record_writing.specs.Lent.{route_used}
use Rattle.writing_plans.proofs.Routing.{agree}
use Rattle.writing_plans.proofs.routers.mask_agrees.Given as goal

abbrev pub invariant-loop-left : goal.invariant-loop-left
invariant-loop-left l = (l.j < 8) × (l.left < 256) × (l.n ≤ l.t.count) × (agree l.t l.n (to_come (0 ∷ l.t.mask) l.j l.left) ≡ mask_agrees (route_used l.t))

abbrev pub decreases-loop-left : goal.decreases-loop-left
decreases-loop-left l = (8 - l.j) * 256 + l.left
