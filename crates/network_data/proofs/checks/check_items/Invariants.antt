-- `network_data::checks::check_items` meets its contract. The invariant: what the walker has left is no longer than all, and
-- checking it, with c passed, gives the answer. The measure is what is left. Assumes nothing.
use mathlib.Core.Path.{◌≡◌}
use Prim.Native.Nat.{◌≤◌}
use lib.ListN.{length}
use Rattle.network_framing.specs.Frame.{walk_in}
use Rattle.network_data.specs.Rules.{check_from, check_value}
use Rattle.network_data.proofs.checks.check_items.Given as goal

abbrev pub invariant-loop-ty : goal.invariant-loop-ty
invariant-loop-ty l = (length l.rest ≤ length l.s) × (check_from l.place l.rest l.c (walk_in l.rest 0 (length l.rest)) ≡ check_value l.place l.s)

abbrev pub decreases-loop-ty : goal.decreases-loop-ty
decreases-loop-ty l = length l.rest
