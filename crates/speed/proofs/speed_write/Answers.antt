-- `speed::speed_write` meets its contract.
use mathlib.Core.Path.{◌≡◌, ◌∙◌, ap}
use Rattle.std.specs.Prelude.{Result, Ok, Err}
use Rattle.std.specs.Result.{ResultUnwrapsOrElse}
use Rattle.refusal.specs.Answer.{Answer, given, absent, refused, on_given}
use Rattle.refusal.specs.Output.{Output}
use Rattle.refusal.specs.Results.{answer_of}
use Rattle.refusal.specs.declared.Refusal.{Refusal}
use Rattle.route64.specs.Routes.{Route, routes, zero_routes, laid_out}
use Rattle.route64.specs.declared.Route64.{Route64}
use Rattle.speed.specs.Code.{code}
use Rattle.speed.proofs.speed_write.Goals as goal

-- zeros where the value is refused
route_or_zeros : (x : Result Route64 Refusal) (a : Answer Route) (t : Route64) → answer_of x ≡ on_given routes a
    → ResultUnwrapsOrElse x (λ (r : Route64). r ≡ zero_routes) t → t ≡ laid_out a
unfolding laid_out
route_or_zeros (Ok y) (given r) t e u = cc
route_or_zeros (Ok y) absent t e u = cc
route_or_zeros (Ok y) (refused n p i) t e u = cc
route_or_zeros (Err q) (given r) t e u = cc
route_or_zeros (Err q) absent t e u = cc
route_or_zeros (Err q) (refused n p i) t e u = u

pub returns : goal.returns
returns c =
    let t = route_or_zeros _ _ _ c.decode_route64.ensures c.unwrap_or_default-route.ensures in
    let wrote = simp (c.all_lent.ensures, c.rows_of.ensures, c.tables_of.ensures, c.record_of.ensures, t) at c.write.ensures in
    (c.coded.ensures ∙ ap (λ (o : Output). code o.answer) wrote, ap (λ (o : Output). o.left) wrote)
