-- `diag_rules::assigns` meets its contract.
use mathlib.Core.Path.{ap}
use Prim.Native.Nat.{ℕ, ◌/◌, ◌%◌, ◌^◌}
use native.Mathlib.Omega.{arith}
use lib.Dec.{eqb}
use Rattle.diag_rules.specs.Mask.{bit_of}
use Rattle.diag_rules.proofs.assigns.Goals as goal

pub returns : goal.returns
unfolding bit_of
returns c = ap (λ (shift : ℕ). eqb (c.args.byte / 2 ^ shift % 2) 1) (omega arith)
