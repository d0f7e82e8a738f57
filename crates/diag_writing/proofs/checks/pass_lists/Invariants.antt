-- `diag_writing::checks::pass_lists` meets its contract. The invariant: f is what the rows so far make of it.
use Rattle.std.proofs.Common.{◌≡◌, take}
use Rattle.tables.specs.Fold.{fold}
use Rattle.diag_writing.specs.Checks.{passed_list}
use Rattle.writing_plans.specs.Used.{no_lists}
use Rattle.diag_writing.proofs.checks.pass_lists.Given as goal

abbrev pub invariant-loop-x : goal.invariant-loop-x
invariant-loop-x l = l.f ≡ fold passed_list (no_lists l.bytes) (take l.x-index l.table)
