-- `speed::speed_address_in` meets its contract.
use mathlib.Core.Path.{◌∙◌, ap}
use Rattle.speed.specs.Code.{code}
use Rattle.refusal.specs.Output.{Output}
use Rattle.speed.proofs.speed_address_in.Goals as goal

pub returns : goal.returns
returns c =
    let wrote = c.read_address.ensures in
    (c.coded.ensures ∙ ap (λ (o : Output). code o.answer) wrote, ap (λ (o : Output). o.left) wrote)
