-- `diag_writing::plan::judge` meets its contract.
use Rattle.writing_plans.proofs.Routing.{full_mask, full_rows}
use Rattle.diag_writing.proofs.Planned.{planned}
use Rattle.diag_writing.proofs.plan.judge.Goals as goal

pub returns : goal.returns
returns c =
    λ l s.
    let t = c.args.t in
    let good = c.well_formed.1.0 in
    planned _ l t _ _ _ _ _ _ s (full_mask t _ good, full_rows t _ good) _ c.plan_by.ensures
