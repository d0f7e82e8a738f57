-- `pairing::pair` meets its contract, by what `check_values` answered and with the tables of counts.
use mathlib.Core.Path.{sym}
use native.Mathlib.Omega.{arith}
use Rattle.refusal.proofs.Papers.{passes}
use Rattle.laws.proofs.Emits.{emit_refused, emit_no_room, emit_done}
use Rattle.pairing.proofs.Payloads.{codes_refused, short_payload, short_table, codes_given, codes_many, codes_are, codes_length}
use Rattle.pairing.proofs.pair.Goals as goal

pub returns-in_err-check_values : goal.returns-in_err-check_values
returns-in_err-check_values c =
    rw (passes _ _ c.from_residual.ensures.1) (emit_refused _ _ _ _ _ (codes_refused _ _ _ _ c.in_err-check_values.ensures))

pub returns-then-n-out : goal.returns-then-n-out
returns-then-n-out c =
    let told = c.in_ok-check_values.ensures in
    let table = c.last_value-table.ensures in
    rw c.refuse.ensures (emit_no_room _ _ _ (codes_given _ _ told _ table) (rw (codes_many _ _ told _ table) (omega (arith, c.if-n-out.true))))

pub count_rows-requires : goal.count_rows-requires
count_rows-requires c = short_table _ _ c.in_ok-check_values.ensures _ c.last_value-table.ensures

pub count_lists-requires : goal.count_lists-requires
count_lists-requires c = short_payload _ _ c.in_ok-check_values.ensures

pub returns : goal.returns
returns c =
    let k = c.count_lists.ensures in
    let are = codes_are _ _ c.in_ok-check_values.ensures _ c.last_value-table.ensures _ c.own_mac-own.ensures _ _ _ c.count_rows.ensures k.0 k.1 in
    let many = codes_length _ _ _ _ _ in
    emit_done _ _ _ are _ _ (sym many) c.write_codes.ensures (rw many (omega (arith, c.if-n-out.false)))
