-- `tlv_last::last_entry` meets its contract. The invariant: the last of what is left that has the type, or best where there is none, is the answer.
use mathlib.Core.Path.{◌≡◌}
use Rattle.refusal.specs.Results.{option_of}
use Rattle.tlv.specs.Walk.{left}
use Rattle.tlv_last.specs.Last.{last_spot}
use Rattle.tlv_last.proofs.Lasts.{last_spot_of}
use Rattle.tlv_last.proofs.last_entry.Given as goal

abbrev pub invariant-loop-entry : goal.invariant-loop-entry
invariant-loop-entry l = last_spot_of l.ty (option_of l.best) (left l.entry-iterator) ≡ last_spot l.ty l.input l.s
