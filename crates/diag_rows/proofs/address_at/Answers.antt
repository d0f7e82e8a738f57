-- `diag_rows::address_at` meets its contract.
use mathlib.Core.List.{List}
use Prim.Native.Nat.{ℕ}
use native.Mathlib.Omega.{arith}
use Rattle.refusal.specs.Numbered.{nth}
use Rattle.diag_rows.specs.Rows.{address_parts}
use Rattle.diag_rules.proofs.Kept.{row_kept}
use Rattle.diag_rows.proofs.Listing.{part_in, part_out}
use Rattle.diag_rows.proofs.address_at.Goals as goal

pub returns-then-value-k : goal.returns-then-value-k
returns-then-value-k c =
    row_kept (λ (v : List ℕ). nth (address_parts v) c.args.k) _ _ _ c.in_ok-check_value.ensures _ (part_out _ _ (omega (arith, c.if-value-k.true)))

pub returns : goal.returns
returns c =
    row_kept (λ (v : List ℕ). nth (address_parts v) c.args.k) _ _ _ c.in_ok-check_value.ensures _
    (part_in _ _ _ _ (omega arith) (omega arith) (omega (arith, c.if-value-k.false)))
