-- `payload_sums::rows::address_at` meets its contract.
use mathlib.Core.Path.{ap, ◌∙◌}
use mathlib.Core.List.{List}
use Prim.Native.Nat.{ℕ}
use native.Mathlib.Omega.{arith}
use lib.ListN.{get_or}
use Rattle.payload_sums.proofs.Rowed.{past}
use Rattle.payload_sums.proofs.rows.address_at.Goals as goal

pub returns-then-a-gt15 : goal.returns-then-a-gt15
returns-then-a-gt15 c = c.from.ensures ∙ ap (λ (l : List ℕ). get_or l 15 0) c.address-a.ensures

pub returns : goal.returns
returns c =
    past c.address-a.result.now 15 (omega (arith, c.if-a-gt15.false)) ∙ ap (λ (l : List ℕ). get_or l 15 0) c.address-a.ensures
