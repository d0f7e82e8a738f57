-- `child_lists::child_list` meets its contract, by what the check of the payload answered and by what was found.
use mathlib.Core.Path.{ap, ◌∙◌}
use Rattle.refusal.specs.Answer.{on_given}
use Rattle.refusal.specs.Results.{found_of}
use Rattle.refusal.proofs.Papers.{passes}
use Rattle.diag_entries.specs.Lists.{child_list}
use Rattle.diag_entries.proofs.Checks.{checked_given, checked_refused}
use Rattle.child_lists.specs.Answers.{list_paper}
use Rattle.child_lists.proofs.Lists.{child_found, child_none}
use Rattle.child_lists.proofs.child_list.Goals as goal

pub returns-in_err-check_values : goal.returns-in_err-check_values
unfolding child_list
returns-in_err-check_values c =
    rw (passes _ _ c.from_residual.ensures.1, checked_refused _ _ _ _ c.in_err-check_values.ensures)

pub list_at-requires : goal.list_at-requires
list_at-requires c =
    let fine = checked_given _ _ c.in_ok-check_values.ensures in
    (child_found _ _ fine.0 fine.1 _ _ _ c.in-Some.ensures).0

pub returns-in_err-list_at-in-Some : goal.returns-in_err-list_at-in-Some
returns-in_err-list_at-in-Some c =
    let fine = checked_given _ _ c.in_ok-check_values.ensures in
    ap (λ r. on_given (list_paper c.args.payload.now) (found_of r)) (passes _ _ c.from_residual-in_err-list_at-in-Some.ensures.1)
    ∙ c.in_err-list_at-in-Some.ensures ∙ (child_found _ _ fine.0 fine.1 _ _ _ c.in-Some.ensures).1

pub returns-in_ok-list_at-in-Some : goal.returns-in_ok-list_at-in-Some
returns-in_ok-list_at-in-Some c =
    let fine = checked_given _ _ c.in_ok-check_values.ensures in
    c.in_ok-list_at-in-Some.ensures ∙ (child_found _ _ fine.0 fine.1 _ _ _ c.in-Some.ensures).1

pub returns-in-None : goal.returns-in-None
returns-in-None c =
    let fine = checked_given _ _ c.in_ok-check_values.ensures in
    child_none _ _ fine.0 fine.1 c.in-None.ensures
