-- `lines::answer_all` is safe and ends, by its count of turns: what is kept lies in the input. Assumes nothing.
use Rattle.std.proofs.Common.{◌≤◌, length}
use Rattle.harness.proofs.lines.answer_all.Given as goal

abbrev pub invariant-loop : goal.invariant-loop
invariant-loop l = l.kept ≤ length l.input
