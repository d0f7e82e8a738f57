-- `dataset_index::load` meets its contract. Assumes nothing.
use mathlib.Core.Path.{ap, ◌∙◌}
use Rattle.refusal.specs.Results.{answer_of}
use Rattle.refusal.proofs.Papers.{passes}
use Rattle.dataset_index.proofs.Loads.{fresh_is, load_judged, load_refused}
use borrow.Author.Rules.{rules}
use Rattle.dataset_index.proofs.load.Goals as goal

pub returns-in_err-build : goal.returns-in_err-build
returns-in_err-build c = ap answer_of (passes _ _ c.from_residual.ensures.1) ∙ load_refused _ _ _ _ _ _ _ (search rules) c.in_err-build.ensures

pub returns-then-same : goal.returns-then-same
returns-then-same c =
    let judged = load_judged _ _ _ _ (fresh_is _ _ _ _ (search rules) c.in_ok-build.ensures) c.same.ensures.0 c.same.ensures.1 in
    rw c.if-same.true at judged

pub returns : goal.returns
returns c =
    let judged = load_judged _ _ _ _ (fresh_is _ _ _ _ (search rules) c.in_ok-build.ensures) c.same.ensures.0 c.same.ensures.1 in
    c.wrong_index.ensures ∙ rw c.if-same.false at judged
