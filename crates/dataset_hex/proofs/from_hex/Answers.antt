-- `dataset_hex::from_hex` meets its contract: the scratch holds whatever is decoded.
use Rattle.refusal.proofs.Papers.{passes}
use native.Mathlib.Omega.{arith}
use Rattle.laws.proofs.Emits.{emit_refused}
use Rattle.laws.proofs.Callers.{gave_inside}
use Rattle.dataset_hex.proofs.Hexes.{from_hex_given, from_hex_refused}
use borrow.Author.Rules.{rules}
use Rattle.dataset_hex.proofs.from_hex.Goals as goal

pub slice_bounds-framed_copy-end : goal.slice_bounds-framed_copy-end
slice_bounds-framed_copy-end c = omega (arith, gave_inside _ _ _ _ (c.in_ok-n.ensures))

pub returns-in_err-n : goal.returns-in_err-n
returns-in_err-n c = rw (passes _ _ c.from_residual.ensures.1) (emit_refused _ _ _ _ _ (from_hex_refused _ _ _ (search rules) _ _ _ c.in_err-n.ensures))

pub returns : goal.returns
returns c = rw (from_hex_given _ _ _ _ (c.in_ok-n.ensures)) c.framed_copy.ensures
