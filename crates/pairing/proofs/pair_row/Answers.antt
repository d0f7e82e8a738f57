-- `pairing::pair_row` meets its contract, by what `check_values` answered and with the tables of counts.
use mathlib.Core.Path.{ap, ◌∙◌}
use native.Mathlib.Omega.{arith}
use Rattle.refusal.specs.Results.{found_of}
use Rattle.refusal.proofs.Papers.{passes}
use Rattle.pairing.proofs.Payloads.{row_refused, short_payload, short_table, row_absent, row_answered}
use Rattle.pairing.proofs.pair_row.Goals as goal

pub returns-in_err-check_values : goal.returns-in_err-check_values
returns-in_err-check_values c =
    ap found_of (passes _ _ c.from_residual.ensures.1) ∙ row_refused _ _ _ _ c.in_err-check_values.ensures _

pub returns-then-k-table : goal.returns-then-k-table
returns-then-k-table c =
    row_absent _ _ c.in_ok-check_values.ensures _ c.last_value-table.ensures _ (omega (arith, c.if-k-table.true))

pub count_rows-rows-requires : goal.count_rows-rows-requires
count_rows-rows-requires c = short_table _ _ c.in_ok-check_values.ensures _ c.last_value-table.ensures

pub count_lists-lists-requires : goal.count_lists-lists-requires
count_lists-lists-requires c = short_payload _ _ c.in_ok-check_values.ensures

pub returns : goal.returns
returns c =
    let k = c.count_lists-lists.ensures in
    row_answered _ _ c.in_ok-check_values.ensures _ c.last_value-table.ensures _ c.own_mac-own.ensures _ _ _ c.count_rows-rows.ensures k.0 k.1 _ _ (omega (arith, c.if-k-table.false)) c.row_id-id.ensures.0 _ c.judge_own.ensures
