-- `speed::speed_unhex` meets its contract.
use mathlib.Core.Path.{◌∙◌, ap}
use Rattle.speed.specs.Code.{code}
use Rattle.refusal.specs.Output.{Output}
use Rattle.speed.proofs.speed_unhex.Goals as goal

pub returns : goal.returns
returns c =
    let wrote = c.decode.ensures in
    (c.coded.ensures ∙ ap (λ (o : Output). code o.answer) wrote, ap (λ (o : Output). o.left) wrote)
