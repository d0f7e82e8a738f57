-- `listing::line_end` meets its contract, by whether the input ends in a newline.
use native.Mathlib.Omega.{arith}
use Rattle.listing.proofs.Reports.{line_none, line_dropped, line_whole}
use Rattle.listing.proofs.line_end.Goals as goal

pub returns-in-10 : goal.returns-in-10
returns-in-10 c = line_dropped c.args.input.now (omega arith)

pub returns-in_default : goal.returns-in_default
returns-in_default c = line_none c.args.input.now c.in_default.len_below

pub returns-in_default-2 : goal.returns-in_default-2
returns-in_default-2 c = line_whole c.args.input.now (λ z. omega arith)
