-- `network_tables::prefixes::find_prefix` meets its contract. The invariant: the first prefix from the place at on is the first prefix.
-- The measure is what is left of the value. Assumes nothing.
use mathlib.Core.Path.{◌≡◌}
use Prim.Native.Nat.{◌-◌}
use lib.ListN.{length}
use Rattle.network_framing.specs.Frame.{walk_in}
use Rattle.network_tables.specs.Cursor.{span_of}
use Rattle.network_tables.proofs.prefixes.find_prefix.Given as goal

abbrev pub invariant-loop-ty : goal.invariant-loop-ty
invariant-loop-ty l = span_of (walk_in l.s l.at (length l.s)).items ≡ span_of (walk_in l.s l.initial.at (length l.s)).items

abbrev pub decreases-loop-ty : goal.decreases-loop-ty
decreases-loop-ty l = length l.s - l.at
