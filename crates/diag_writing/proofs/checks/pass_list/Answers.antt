-- `diag_writing::checks::pass_list` meets its contract.
use mathlib.Core.Path.{ap, ◌∙◌}
use Prim.Native.Nat.{◌+◌}
use native.Mathlib.Omega.{arith}
use Rattle.diag_writing.specs.Checks.{grown}
use Rattle.writing_plans.proofs.Tested.{entry_most}
use Rattle.diag_writing.proofs.TableChecks.{list_long, list_short}
use Rattle.diag_writing.proofs.checks.pass_list.Goals as goal

pub returns-then-x-gt65533 : goal.returns-then-x-gt65533
returns-then-x-gt65533 c = list_long c.args.f c.args.x _ c.still_fits-fits.ensures c.if-x-gt65533.true

pub grow-requires : goal.grow-requires
grow-requires c = omega (arith, c.entry_size.ensures, entry_most (2 + c.args.x.len) (omega (arith, c.if-x-gt65533.false)))

pub returns : goal.returns
returns c =
    list_short c.args.f c.args.x _ c.still_fits-fits.ensures _ c.if-x-gt65533.false (c.grow.ensures ∙ ap (grown c.args.f.size) c.entry_size.ensures)
