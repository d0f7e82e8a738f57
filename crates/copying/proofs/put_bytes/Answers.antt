-- `copying::put_bytes` meets its contract: after the last turn nothing is left to store.
use mathlib.Core.Path.{sym, ap, ◌∙◌}
use native.Mathlib.Omega.{arith}
use lib.ListN.{drop_of_length-le}
use Rattle.refusal.specs.Output.{put}
use Rattle.laws.proofs.Puts.{put_none}
use Rattle.laws.proofs.Emits.{placed_fits}
use Rattle.copying.proofs.put_bytes.Goals as goal

pub returns : goal.returns
returns c =
    let l = c.loop-i in
    rw (sym (put_none _ _) ∙ ap (put _ _) (sym (drop_of_length-le _ c.loop-i-test.false)) ∙ l.invariant) (sym (placed_fits _ _ _ (omega arith)))
