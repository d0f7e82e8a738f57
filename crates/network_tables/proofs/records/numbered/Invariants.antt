-- The cursor after so many steps.
use Rattle.std.proofs.Common.{◌≡◌}
use Rattle.tables.specs.Tab.{steps}
use Rattle.network_tables.proofs.records.numbered.Given as goal

abbrev pub invariant-loop : goal.invariant-loop
invariant-loop g l =
    let r = g.T.Record in
    l.c ≡ steps (r.after l.s) l.counter (r.start l.s)
