-- `writing_plans::plan_by` meets its contract: where all tests are made in their order, the plan is the one that the definition says.
use Rattle.std.proofs.Common.{arith}
use Rattle.std.proofs.lemmas.Grind.{common_steps}
use Rattle.writing_plans.proofs.Order.{in_order}
use Rattle.writing_plans.proofs.plan_by.Goals as goal

pub returns-then-not-short : goal.returns-then-not-short
returns-then-not-short c =
    let ordered = in_order _ _ _ _ _ _ _ _ _ _ _ _ _ _ c.lengths_fit-short.ensures c.counts_fit-few.ensures c.fits-fit.ensures c.total_size-size.ensures c.fixed_count.ensures c.is_small-small.ensures in
    grind (arith, common_steps)

pub returns-then-not-few : goal.returns-then-not-few
returns-then-not-few c =
    let ordered = in_order _ _ _ _ _ _ _ _ _ _ _ _ _ _ c.lengths_fit-short.ensures c.counts_fit-few.ensures c.fits-fit.ensures c.total_size-size.ensures c.fixed_count.ensures c.is_small-small.ensures in
    grind (arith, common_steps)

pub returns-then-not-fit : goal.returns-then-not-fit
returns-then-not-fit c =
    let ordered = in_order _ _ _ _ _ _ _ _ _ _ _ _ _ _ c.lengths_fit-short.ensures c.counts_fit-few.ensures c.fits-fit.ensures c.total_size-size.ensures c.fixed_count.ensures c.is_small-small.ensures in
    grind (arith, common_steps)

pub returns-then-not-small : goal.returns-then-not-small
returns-then-not-small c =
    let ordered = in_order _ _ _ _ _ _ _ _ _ _ _ _ _ _ c.lengths_fit-short.ensures c.counts_fit-few.ensures c.fits-fit.ensures c.total_size-size.ensures c.fixed_count.ensures c.is_small-small.ensures in
    grind (arith, common_steps)

pub returns : goal.returns
returns c =
    let ordered = in_order _ _ _ _ _ _ _ _ _ _ _ _ _ _ c.lengths_fit-short.ensures c.counts_fit-few.ensures c.fits-fit.ensures c.total_size-size.ensures c.fixed_count.ensures c.is_small-small.ensures in
    grind (arith, common_steps)
