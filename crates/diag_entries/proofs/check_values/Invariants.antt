-- `diag_entries::check_values` meets its contract. The invariant: n, where the entries that are left decode, or the first fault among them, is the answer.
use mathlib.Core.Path.{◌≡◌}
use lib.ListN.{length}
use Rattle.refusal.specs.Answer.{on_given}
use Rattle.tlv.specs.Walk.{left}
use Rattle.diag_entries.specs.Checked.{checked}
use Rattle.diag_entries.proofs.Checks.{verdict}
use Rattle.diag_entries.proofs.check_values.Given as goal

abbrev pub invariant-loop-entry : goal.invariant-loop-entry
invariant-loop-entry l = verdict l.n (left l.entry-iterator) ≡ on_given length (checked l.payload)
