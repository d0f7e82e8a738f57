-- The operations of a list follow one another and lie within it: where the walk has passed some, the others keep their places.
-- Assumes nothing.
use mathlib.Core.List.{List, [], ◌∷◌}
use Prim.Native.Nat.{ℕ, zero, suc, ◌+◌, ◌≤◌, ◌<◌}
use native.Mathlib.Omega.{arith}
use lib.ListN.{length}
use Rattle.laws.proofs.Parts.{length_part}
use Rattle.change_lists.specs.Operations.{Op, set, remove, OpAt, ops_of}
use Rattle.change_lists.specs.Place.{op_frame_at}
use Rattle.change_lists.specs.declared.OpFrame.{OpFrame}
use Rattle.change_lists.specs.declared.OpFrame.TheVariants as o
use Rattle.change_lists.proofs.Reading.{ops_from, ops_start}
use Rattle.change_lists.proofs.Places.{OpInside, op_inside, step_by, op_step_lem}

-- how many bytes an operation takes at least: its mark, and a type byte or the shortest header and the value
abbrev pub least : Op → ℕ
least (set c) = 4 + length c.value
least (remove t) = 3

-- operations from lo on and up to hi
abbrev pub Fit : (lo hi : ℕ) → List OpAt → Type 0
Fit lo hi [] = lo ≤ hi
Fit lo hi (x ∷ xs) = (lo ≤ x.place) × Fit (x.place + least x.op) hi xs

fit_from : (lo mid hi : ℕ) (xs : List OpAt) → lo ≤ mid → Fit mid hi xs → Fit lo hi xs
fit_from lo mid hi [] h f = omega arith
fit_from lo mid hi (x ∷ xs) h f = (omega (arith, f.0), f.1)

fit_below : (lo hi : ℕ) (xs : List OpAt) → Fit lo hi xs → lo ≤ hi
fit_below lo hi [] f = f
fit_below lo hi (x ∷ xs) f = omega (arith, f.0, fit_below (x.place + least x.op) hi xs f.1)

-- what a turn of a loop over the operations of a list learns of those that are left
pub fit_next : (lo hi : ℕ) (xs : List OpAt) → Fit lo hi xs → (lo ≤ hi) × Fit 0 hi xs
fit_next lo hi xs f = (fit_below lo hi xs f, fit_from 0 lo hi xs (omega arith) f)

step_fits : (s : List ℕ) (at : ℕ) (g : OpFrame) → at ≤ length s → OpInside s at g
    → ((next : ℕ) → at < next → next ≤ length s → Fit next (length s) (ops_from s next).ops) → Fit at (length s) (step_by s at g).ops
step_fits s at o.End h i go = h
step_fits s at o.Bad h i go = h
step_fits s at (o.Remove t) h i go = (omega arith, go (at + 3) (omega arith) i)
step_fits s at (o.Set t a n) h i go =
    (omega arith, fit_from _ (a + n) (length s) _ (omega (arith, i, length_part s a n i.1)) (go (a + n) (omega (arith, i)) i.1))

from_fits : (fuel at : ℕ) (s : List ℕ) → at ≤ length s → length s ≤ at + fuel → Fit at (length s) (ops_from s at).ops
from_fits zero at s h k = rw op_step_lem (step_fits s at (op_frame_at s at) h (op_inside s at) (λ next l m. absurd (omega arith)))
from_fits (suc n) at s h k =
    rw op_step_lem (step_fits s at (op_frame_at s at) h (op_inside s at) (λ next l m. from_fits n next s m (omega arith)))

pub ops_fit : (s : List ℕ) → Fit 0 (length s) (ops_of s).ops
ops_fit s = rw (← ops_start s) (from_fits (length s) 0 s (omega arith) (omega arith))
