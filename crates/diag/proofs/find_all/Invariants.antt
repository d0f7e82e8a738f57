-- `diag::find_all` meets its contract. The invariant: what is noted and the entries that are left give the last entry of each type, and how many have type 30.
use Rattle.tlv.specs.Walk.{left}
use Rattle.diag.proofs.Finds.{Finding}
use Rattle.diag.proofs.find_all.Given as goal

abbrev pub invariant-loop-entry : goal.invariant-loop-entry
invariant-loop-entry l = Finding l.p.last l.p.lists l.payload (left l.entry-iterator)
