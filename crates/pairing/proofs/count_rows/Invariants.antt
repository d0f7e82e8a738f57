-- `pairing::count_rows` meets its contract. The invariant: the counts so far, and the rows from k on, are those of all.
use lib.ListN.{drop}
use Rattle.pairing.specs.Loops.{rows_of}
use Rattle.pairing.proofs.Tallies.{Counting}
use Rattle.pairing.proofs.count_rows.Given as goal

abbrev pub invariant-loop-k : goal.invariant-loop-k
invariant-loop-k l = Counting l.count (rows_of l.table) (drop l.k (rows_of l.table)) l.k
