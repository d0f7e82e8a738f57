-- `diag_rules::routes_fit` meets its contract.
use borrow.Author.Tests.{le-leb, lt-leb}
use Rattle.diag_rules.specs.Mask.{routes_fit}
use Rattle.diag_rules.proofs.routes_fit.Goals as goal

pub returns-then-v-ge-ROUTES_AT : goal.returns-then-v-ge-ROUTES_AT
unfolding routes_fit
returns-then-v-ge-ROUTES_AT c = simp (le-leb _ _ c.if-v-ge-ROUTES_AT.true, c.count_routers.ensures.0)

pub returns-else-v-ge-ROUTES_AT : goal.returns-else-v-ge-ROUTES_AT
unfolding routes_fit
returns-else-v-ge-ROUTES_AT c = simp (lt-leb _ _ c.if-v-ge-ROUTES_AT.false)
