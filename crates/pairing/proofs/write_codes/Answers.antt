-- `pairing::write_codes` meets its contract.
use mathlib.Core.Path.{refl, sym, ap, ◌∙◌}
use lib.ListN.{length-set}
use Rattle.refusal.specs.Output.{put}
use Rattle.laws.proofs.Puts.{put_none}
use Rattle.pair_rule.specs.Codes.{code_of}
use Rattle.pairing.proofs.Ids.{codes_turn, codes_end}
use Rattle.pairing.proofs.write_codes.Goals as goal

pub loop-k-init : goal.loop-k-init
loop-k-init c = (refl, refl)

pub loop-k-preserved : goal.loop-k-preserved
loop-k-preserved c =
    let l = c.loop-k in
    let made = c.code.ensures ∙ ap code_of c.judge_own.ensures in
    (simp length-set l.invariant.0, codes_turn _ _ _ _ _ _ _ _ _ c.loop-k-test.true c.row_id-id.ensures.0 made ∙ l.invariant.1)

pub returns : goal.returns
returns c =
    let l = c.loop-k in
    sym (put_none _ _) ∙ ap (put _ _) (sym (codes_end _ _ _ _ _ _ c.loop-k-test.false)) ∙ l.invariant.1
