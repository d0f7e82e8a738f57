-- `address_reading::put_group` meets its contract.
use mathlib.Core.Path.{sym, ◌∙◌}
use native.Mathlib.Omega.{arith}
use lib.ListN.{length-set}
use Rattle.laws.proofs.Puts.{put_byte, put_one}
use Rattle.address_reading.proofs.put_group.Goals as goal

pub bounds-out-at-2 : goal.bounds-out-at-2
bounds-out-at-2 c = simp length-set (omega arith)

pub returns : goal.returns
returns c = sym (put_byte _ _ _ _ ∙ put_one _ _ _)
