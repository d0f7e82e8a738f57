-- `network_tables::rows::seek_in` meets its contract. The invariant: the first row from the place at on is the first row.
-- The measure is what is left of the prefix. Assumes nothing.
use mathlib.Core.Path.{◌≡◌}
use Prim.Native.Nat.{◌-◌}
use Rattle.network_framing.specs.Frame.{walk_in}
use Rattle.network_tables.specs.Cursor.{rows_in}
use Rattle.network_tables.proofs.rows.seek_in.Given as goal

abbrev pub invariant-loop-t : goal.invariant-loop-t
invariant-loop-t l = rows_in l.ty l.size l.end (walk_in l.s l.at l.end).items ≡ rows_in l.ty l.size l.end (walk_in l.s l.initial.at l.end).items

abbrev pub decreases-loop-t : goal.decreases-loop-t
decreases-loop-t l = l.end - l.at
