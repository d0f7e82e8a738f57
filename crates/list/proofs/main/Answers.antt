-- `list::main` is safe: the count that `report_text` answers lies within the text.
use native.Mathlib.Omega.{arith}
use Rattle.laws.proofs.Callers.{gave_inside}
use Rattle.list.proofs.main.Goals as goal

pub slice_bounds-write_all-end : goal.slice_bounds-write_all-end
slice_bounds-write_all-end c = omega (arith, gave_inside _ _ _ _ (rw c.in-Ok.is at c.report_text.ensures))
