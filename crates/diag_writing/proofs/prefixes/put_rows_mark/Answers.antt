-- `diag_writing::prefixes::put_rows_mark` meets its contract.
use mathlib.Core.Path.{sym, ap, ◌∙◌}
use native.Mathlib.Omega.{arith}
use native.Mathlib.Nat.{add-zero}
use lib.ListN.{length}
use Rattle.refusal.specs.Output.{put}
use Rattle.laws.proofs.Puts.{put_none}
use Rattle.diag_writing.proofs.PrefixParts.{mark_none, mark_some}
use Rattle.diag_writing.proofs.prefixes.put_rows_mark.Goals as goal

pub returns-then-n-eq0 : goal.returns-then-n-eq0
returns-then-n-eq0 c =
    let none = mark_none c.args.mark c.args.n c.args.bytes c.if-n-eq0.true in
    (rw (none, add-zero), rw (none, put_none))

pub put_mark-requires : goal.put_mark-requires
put_mark-requires c =
    let some = ap length (mark_some c.args.mark c.args.n c.args.bytes c.if-n-eq0.false) in
    omega arith

pub returns-else-n-eq0 : goal.returns-else-n-eq0
returns-else-n-eq0 c =
    let some = mark_some c.args.mark c.args.n c.args.bytes c.if-n-eq0.false in
    (c.put_mark.ensures.0 ∙ omega (arith, ap length some), c.put_mark.ensures.1 ∙ ap (put _ _) (sym some))
