-- `child_lists::list_at` meets its contract, by what the decoder answered.
use mathlib.Core.Path.{ap, ◌∙◌}
use native.Mathlib.Omega.{arith}
use native.Mathlib.Nat.{add-sub_cancel_left}
use Rattle.refusal.specs.Answer.{on_given}
use Rattle.refusal.specs.Results.{answer_of}
use Rattle.refusal.proofs.Papers.{passes}
use Rattle.child_lists.specs.Answers.{list_paper}
use Rattle.child_lists.proofs.Lists.{list_read, list_starts, list_refused}
use Rattle.child_lists.proofs.list_at.Goals as goal

pub returns-in_err-list : goal.returns-in_err-list
returns-in_err-list c =
    ap (λ r. on_given (list_paper c.args.payload.now) (answer_of r)) (passes _ _ c.from_residual.ensures.1)
    ∙ list_refused _ _ _ _ _ _ _ (simp add-sub_cancel_left at c.in_err-list.ensures)

pub overflow_add-result : goal.overflow_add-result
overflow_add-result c = omega (arith, list_starts _ _ _ _ c.requires _ (simp add-sub_cancel_left at c.in_ok-list.ensures))

pub returns : goal.returns
returns c = list_read _ _ _ _ c.requires _ (simp add-sub_cancel_left at c.in_ok-list.ensures)
