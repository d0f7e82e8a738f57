-- `pairing::write_codes` meets its contract. The invariant: the numbers from k on, stored from k on, make all of them stored.
use mathlib.Core.Path.{◌≡◌}
use lib.ListN.{length, drop}
use Rattle.refusal.specs.Output.{put}
use Rattle.refusal.specs.Results.{option_of}
use Rattle.pairing.specs.Loops.{rows_of, codes_by}
use Rattle.pairing.proofs.write_codes.Given as goal

abbrev pub invariant-loop-k : goal.invariant-loop-k
invariant-loop-k l = (length l.out ≡ length l.initial.out)
    × (put l.out l.k (drop l.k (codes_by (option_of l.own) l.rows l.lists.count l.lists.place (rows_of l.table))) ≡ put l.initial.out 0 (codes_by (option_of l.own) l.rows l.lists.count l.lists.place (rows_of l.table)))
