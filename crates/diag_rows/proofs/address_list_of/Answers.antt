-- `diag_rows::address_list_of` meets its contract.
use mathlib.Core.Path.{◌∙◌}
use Rattle.diag_values.proofs.Numbers.{two_spell}
use Rattle.diag_rows.proofs.address_list_of.Goals as goal

pub returns : goal.returns
returns c = simp (c.from_be_bytes-rloc16.ensures ∙ two_spell _ 0 c.requires)
