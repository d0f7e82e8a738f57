-- `diag_writing::linked::priority_bits` meets its contract.
use native.Mathlib.Omega.{arith}
use Rattle.value_writing.specs.Encode.{priority_bits}
use Rattle.diag_writing.proofs.Priority.{bits_at, bits_else}
use Rattle.diag_writing.proofs.linked.priority_bits.Goals as goal

pub returns-then-p-eq1 : goal.returns-then-p-eq1
unfolding priority_bits
returns-then-p-eq1 c = (bits_at c.args.p 1 c.ranges.p c.if-p-eq1.true, omega arith)

pub returns-then-p-eqminus1 : goal.returns-then-p-eqminus1
unfolding priority_bits
returns-then-p-eqminus1 c = (bits_at c.args.p 255 c.ranges.p c.if-p-eqminus1.true, omega arith)

pub returns-then-p-eqminus2 : goal.returns-then-p-eqminus2
unfolding priority_bits
returns-then-p-eqminus2 c = (bits_at c.args.p 254 c.ranges.p c.if-p-eqminus2.true, omega arith)

pub returns : goal.returns
returns c = (bits_else c.args.p c.if-p-eq1.false c.if-p-eqminus1.false c.if-p-eqminus2.false, omega arith)
