-- `diag_writing::routers::route64_bytes` meets its contract. The invariant: what is stored, with the bytes of the rows from n on, is the value.
use mathlib.Core.Path.{◌≡◌}
use Prim.Native.Nat.{◌-◌, ◌≤◌}
use lib.ListN.{length}
use Rattle.diag_writing.proofs.Stored.{Stored}
use Rattle.diag_writing.proofs.routers.route64_bytes.Given as goal

abbrev pub invariant-loop-n : goal.invariant-loop-n
invariant-loop-n l = (l.n ≤ l.t.count) × (length l.a ≡ 73) × Stored l.t l.a l.n

abbrev pub decreases-loop-n : goal.decreases-loop-n
decreases-loop-n l = l.t.count - l.n
