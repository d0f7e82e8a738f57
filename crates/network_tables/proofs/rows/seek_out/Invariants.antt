-- `network_tables::rows::seek_out` meets its contract. The invariant: the first row from the place at on is the first row.
-- The measure is what is left of the value. Assumes nothing.
use mathlib.Core.Path.{◌≡◌}
use Prim.Native.Nat.{◌-◌}
use lib.ListN.{length}
use Rattle.network_framing.specs.Frame.{walk_in}
use Rattle.network_tables.specs.Cursor.{rows_out}
use Rattle.network_tables.proofs.rows.seek_out.Given as goal

abbrev pub invariant-loop-t : goal.invariant-loop-t
invariant-loop-t l = rows_out l.ty l.size l.s (walk_in l.s l.at (length l.s)).items ≡ rows_out l.ty l.size l.s (walk_in l.s l.initial.at (length l.s)).items

abbrev pub decreases-loop-t : goal.decreases-loop-t
decreases-loop-t l = length l.s - l.at
