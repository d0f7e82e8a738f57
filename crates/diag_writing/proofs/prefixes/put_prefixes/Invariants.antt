-- `diag_writing::prefixes::put_prefixes` meets its contract. The invariant: the prefixes that are left, stored from here on, make of the output what all of them make of it.
use Rattle.diag_writing.proofs.PrefixLoop.{PrefixInv}
use Rattle.diag_writing.proofs.prefixes.put_prefixes.Given as goal

abbrev pub invariant-loop-e : goal.invariant-loop-e
invariant-loop-e l = PrefixInv l.prefixes l.routes l.borders l.fn.c l.fn.out l.e-index l.c l.out
