-- `diag::network_data_in` meets its contract, by what was found and by what the check of Network Data answered.
use native.Mathlib.Omega.{arith}
use native.Mathlib.Nat.{add-sub_cancel_left}
use mathlib.Core.Path.{ap}
use Rattle.refusal.specs.Results.{option_of}
use Rattle.diag.proofs.Fields.{network_counted, network_refused, network_none}
use Rattle.diag.proofs.network_data_in.Goals as goal

pub overflow_add-start : goal.overflow_add-start
overflow_add-start c = omega (arith, rw c.in-Some.is at c.requires)

pub slice_bounds-check-end : goal.slice_bounds-check-end
slice_bounds-check-end c = omega (arith, rw c.in-Some.is at c.requires)

pub returns-in-Ok : goal.returns-in-Ok
returns-in-Ok c = network_counted _ _ _ _ _ (ap option_of c.in-Some.is) _ (simp add-sub_cancel_left at c.in-Ok.ensures)

pub returns-in-Err : goal.returns-in-Err
returns-in-Err c = network_refused _ _ _ _ _ (ap option_of c.in-Some.is) _ _ _ (simp add-sub_cancel_left at c.in-Err.ensures)

pub returns-in-None : goal.returns-in-None
returns-in-None c = rw c.in-None.is (network_none _)
