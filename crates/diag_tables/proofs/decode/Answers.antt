-- `diag_tables::decode` meets its contract: what `network_tables::decode` leaves of the last Network Data is what the definition has.
-- Assumes nothing.
use mathlib.Core.Path.{ap, ◌∙◌}
use native.Mathlib.Omega.{arith}
use Rattle.refusal.proofs.Papers.{passes}
use Rattle.diag.specs.Answers.{decoded_answer}
use Rattle.diag_tables.specs.Tables.{outcome}
use Rattle.diag_tables.proofs.Plans.{refuses, inside, filled}
use Rattle.diag_tables.proofs.decode.Goals as goal

pub returns-in_err-d : goal.returns-in_err-d
returns-in_err-d c =
    let a = c.args in
    ap (λ t. outcome t a.prefixes.now a.has_route.now a.border_routers.now) (ap (decoded_answer a.payload.now) (passes _ _ c.from_residual.ensures.1))
    ∙ refuses _ _ _ _ _ _ _ c.in_err-d.ensures

pub overflow_add-n : goal.overflow_add-n
overflow_add-n c = omega (arith, inside _ _ c.in_ok-d.ensures _ c.in-Some.is)

pub slice_bounds-decode-end : goal.slice_bounds-decode-end
slice_bounds-decode-end c = omega (arith, inside _ _ c.in_ok-d.ensures _ c.in-Some.is)

pub returns-in_err-decode : goal.returns-in_err-decode
returns-in_err-decode c =
    ap (λ t. outcome t c.decode-in-Some.new.prefixes c.decode-in-Some.new.has_route c.decode-in-Some.new.border_routers)
    (ap (decoded_answer c.args.payload.now) (passes _ _ c.from_residual-in_err-decode.ensures.1))
    ∙ filled _ _ c.in_ok-d.ensures _ c.in-Some.is _ _ _ _ _ _ _ c.in_err-decode.ensures

pub returns-in_ok-decode : goal.returns-in_ok-decode
returns-in_ok-decode c = filled _ _ c.in_ok-d.ensures _ c.in-Some.is _ _ _ _ _ _ _ c.in_ok-decode.ensures
