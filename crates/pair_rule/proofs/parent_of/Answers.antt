-- `pair_rule::parent_of` meets its contract.
use native.Mathlib.Omega.{arith}
use Rattle.pair_rule.proofs.parent_of.Goals as goal

pub returns : goal.returns
returns c = omega arith
