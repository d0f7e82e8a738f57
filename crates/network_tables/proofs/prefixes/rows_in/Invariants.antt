-- `network_tables::prefixes::rows_in` meets its contract. The invariant: the rows counted and those from the place at on are all rows.
-- The measure is what is left of the prefix. Assumes nothing.
use mathlib.Core.Path.{◌≡◌}
use Prim.Native.Nat.{◌+◌, ◌-◌, ◌≤◌}
use lib.ListN.{length}
use Rattle.network_framing.specs.Frame.{walk_in}
use Rattle.network_data.specs.Decode.{places_in}
use Rattle.network_tables.proofs.prefixes.rows_in.Given as goal

abbrev pub invariant-loop-t : goal.invariant-loop-t
invariant-loop-t l = (l.sum ≤ l.at) × (l.sum + length (places_in l.ty l.size (walk_in l.s l.at l.end).items) ≡ length (places_in l.ty l.size (walk_in l.s l.initial.at l.end).items))

abbrev pub decreases-loop-t : goal.decreases-loop-t
decreases-loop-t l = l.end - l.at
