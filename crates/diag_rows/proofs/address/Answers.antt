-- `diag_rows::address` meets its contract: an address is what its part holds.
use native.Mathlib.Omega.{arith}
use native.Mathlib.Nat.{add-sub_cancel_left}
use Rattle.diag_rows.proofs.Listing.{address_bytes, address_inside}
use Rattle.diag_rows.proofs.address.Goals as goal

pub overflow_add-result : goal.overflow_add-result
overflow_add-result c = omega (arith, address_inside c.args.value.now _ _ _ (rw c.in-Ok-Some.field-0-is at c.in-Ok-Some.ensures))

pub slice_bounds-result-end : goal.slice_bounds-result-end
slice_bounds-result-end c = omega (arith, address_inside c.args.value.now _ _ _ (rw c.in-Ok-Some.field-0-is at c.in-Ok-Some.ensures))

pub returns-in-Ok-Some : goal.returns-in-Ok-Some
returns-in-Ok-Some c = simp add-sub_cancel_left (address_bytes _ _ _ (rw c.in-Ok-Some.field-0-is at c.in-Ok-Some.ensures))

pub returns-in-Ok-None : goal.returns-in-Ok-None
returns-in-Ok-None c = address_bytes _ _ _ (rw c.in-Ok-None.field-0-is at c.in-Ok-None.ensures)

pub returns-in-Err : goal.returns-in-Err
returns-in-Err c = address_bytes _ _ _ c.in-Err.ensures
