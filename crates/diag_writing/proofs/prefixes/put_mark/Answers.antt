-- `diag_writing::prefixes::put_mark` meets its contract.
use mathlib.Core.Path.{refl}
use native.Mathlib.Omega.{arith}
use lib.ListN.{length-set}
use Rattle.diag_writing.proofs.PrefixParts.{put_two}
use Rattle.diag_writing.proofs.prefixes.put_mark.Goals as goal

pub bounds-out-at-2 : goal.bounds-out-at-2
bounds-out-at-2 c = simp length-set (omega arith)

pub returns : goal.returns
returns c = (refl, put_two _ _ _ _)
