-- `network_data::checks::check_inner` meets its contract. The invariant: checking what the walker has left, with c passed, gives the answer.
-- The measure is what is left. Assumes nothing.
use mathlib.Core.Path.{◌≡◌}
use lib.ListN.{length}
use Rattle.network_framing.specs.Frame.{walk_in}
use Rattle.network_data.specs.Rules.{check_in}
use Rattle.network_data.proofs.checks.check_inner.Given as goal

abbrev pub invariant-loop-ty : goal.invariant-loop-ty
invariant-loop-ty l = check_in l.place l.c (walk_in l.rest 0 (length l.rest)) ≡ check_in l.place l.initial.c (walk_in l.s 0 (length l.s))

abbrev pub decreases-loop-ty : goal.decreases-loop-ty
decreases-loop-ty l = length l.rest
