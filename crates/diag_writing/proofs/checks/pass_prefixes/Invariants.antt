-- `diag_writing::checks::pass_prefixes` meets its contract. The invariant: f is what the rows so far make of it.
use Rattle.std.proofs.Common.{◌≡◌, take}
use Rattle.tables.specs.Fold.{fold}
use Rattle.diag_writing.specs.Checks.{passed_prefix}
use Rattle.writing_plans.specs.Used.{no_prefixes}
use Rattle.diag_writing.proofs.checks.pass_prefixes.Given as goal

abbrev pub invariant-loop-e : goal.invariant-loop-e
invariant-loop-e l = l.f ≡ fold passed_prefix no_prefixes (take l.e-index l.table)
