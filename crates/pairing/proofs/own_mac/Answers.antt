-- `pairing::own_mac` meets its contract, by what `read_u16` answered.
use mathlib.Core.Path.{ap, ◌∙◌}
use Rattle.refusal.specs.Results.{option_of}
use Rattle.pairing.specs.Loops.{own_in}
use Rattle.pairing.proofs.Ids.{own_by}
use Rattle.pairing.proofs.own_mac.Goals as goal

pub returns : goal.returns
returns c = ap option_of c.ok.ensures.value ∙ own_by _ _ c.read_u16.ensures ∙ ap own_in c.last_value.ensures
