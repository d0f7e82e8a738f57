-- `network_tables::decode` meets its contract: each table has room for its records, they are there to be read, and storing them gives the outcome.
-- Assumes nothing.
use mathlib.Core.Path.{sym, ap, ◌∙◌}
use lib.Seq.{length-take-le}
use Rattle.refusal.specs.Results.{answer_of}
use Rattle.refusal.proofs.Papers.{passes}
use Rattle.network_plans.specs.Tables.{outcome}
use Rattle.network_tables.proofs.Plans.{fits, ask_prefixes, ask_routes, ask_borders, refuses}
use Rattle.network_tables.proofs.decode.Goals as goal

pub returns-in_err-c : goal.returns-in_err-c
returns-in_err-c c =
    let a = c.args in
    ap (λ t. outcome t a.prefixes.now a.has_route.now a.border_routers.now) (ap answer_of (passes _ _ c.from_residual.ensures.1))
    ∙ refuses _ _ _ _ _ _ _ c.in_err-c.ensures

pub slice_bounds-fill-end : goal.slice_bounds-fill-end
slice_bounds-fill-end c = (fits _ _ _ _ _ c.in_ok-c.ensures).room.prefixes

pub slice_bounds-fill-end-2 : goal.slice_bounds-fill-end-2
slice_bounds-fill-end-2 c = sym (length-take-le _ _ (fits _ _ _ _ _ c.in_ok-c.ensures).room.prefixes)

pub slice_bounds-fill-end-3 : goal.slice_bounds-fill-end-3
slice_bounds-fill-end-3 c = (fits _ _ _ _ _ c.in_ok-c.ensures).room.routes

pub slice_bounds-fill-end-4 : goal.slice_bounds-fill-end-4
slice_bounds-fill-end-4 c = sym (length-take-le _ _ (fits _ _ _ _ _ c.in_ok-c.ensures).room.routes)

pub slice_bounds-fill-end-5 : goal.slice_bounds-fill-end-5
slice_bounds-fill-end-5 c = (fits _ _ _ _ _ c.in_ok-c.ensures).room.borders

pub slice_bounds-fill-end-6 : goal.slice_bounds-fill-end-6
slice_bounds-fill-end-6 c = sym (length-take-le _ _ (fits _ _ _ _ _ c.in_ok-c.ensures).room.borders)

pub fill-requires : goal.fill-requires
fill-requires c =
    let a = c.args in
    ask_prefixes a.value.now a.prefixes.now a.has_route.now a.border_routers.now _ c.in_ok-c.ensures _ (length-take-le _ _ (fits _ _ _ _ _ c.in_ok-c.ensures).room.prefixes)

pub fill-requires-2 : goal.fill-requires-2
fill-requires-2 c =
    let a = c.args in
    ask_routes a.value.now a.prefixes.now a.has_route.now a.border_routers.now _ c.in_ok-c.ensures _ (length-take-le _ _ (fits _ _ _ _ _ c.in_ok-c.ensures).room.routes)

pub fill-requires-3 : goal.fill-requires-3
fill-requires-3 c =
    let a = c.args in
    ask_borders a.value.now a.prefixes.now a.has_route.now a.border_routers.now _ c.in_ok-c.ensures _ (length-take-le _ _ (fits _ _ _ _ _ c.in_ok-c.ensures).room.borders)
