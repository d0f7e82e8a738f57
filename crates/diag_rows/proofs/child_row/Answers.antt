-- `diag_rows::child_row` meets its contract.
use mathlib.Core.List.{List}
use Prim.Native.Nat.{ℕ}
use Rattle.refusal.specs.Numbered.{nth}
use Rattle.diag_rows.specs.Rows.{child_rows}
use Rattle.diag_rules.proofs.Kept.{row_kept}
use Rattle.diag_rows.proofs.Listing.{child_in, child_out}
use Rattle.diag_rows.proofs.child_row.Goals as goal

pub returns-then-value-k : goal.returns-then-value-k
returns-then-value-k c =
    row_kept (λ (v : List ℕ). nth (child_rows v) c.args.k) _ _ _ c.in_ok-check_value.ensures _ (child_out _ _ c.if-value-k.true)

pub returns : goal.returns
returns c =
    row_kept (λ (v : List ℕ). nth (child_rows v) c.args.k) _ _ _ c.in_ok-check_value.ensures _
    (child_in _ _ _ c.if-value-k.false c.child_at.ensures)
