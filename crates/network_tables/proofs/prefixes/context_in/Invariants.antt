-- `network_tables::prefixes::context_in` meets its contract. The invariant: the last context from the place at on, or x, is the last context.
-- The measure is what is left of the prefix. Assumes nothing.
use mathlib.Core.Path.{◌≡◌}
use Prim.Native.Nat.{◌-◌}
use Rattle.network_framing.specs.Frame.{walk_in}
use Rattle.refusal.specs.Answer.{absent}
use Rattle.refusal.specs.Results.{option_of}
use Rattle.network_data.specs.Decode.{last_context}
use Rattle.network_tables.proofs.prefixes.context_in.Given as goal

abbrev pub invariant-loop-ty : goal.invariant-loop-ty
invariant-loop-ty l = last_context l.s (option_of l.x) (walk_in l.s l.at l.end).items ≡ last_context l.s absent (walk_in l.s l.initial.at l.end).items

abbrev pub decreases-loop-ty : goal.decreases-loop-ty
decreases-loop-ty l = l.end - l.at
