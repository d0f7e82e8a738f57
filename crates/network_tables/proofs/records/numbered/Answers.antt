-- `network_tables::records::numbered` meets its contract. The invariant: the cursor has made so many steps. Assumes nothing.
use Rattle.std.proofs.Common.{◌≡◌, arith, sym, ap, ◌∙◌, subst}
use Rattle.tables.specs.Tab.{steps, steps_none, steps_more}
use Rattle.network_tables.proofs.records.numbered.Goals as goal

pub loop-init : goal.loop-init
loop-init g c = c.first-c.ensures ∙ sym (steps_none _ _)

pub next-c-requires : goal.next-c-requires
next-c-requires g c = subst (g.T.Record.here c.args.s.now) (sym c.loop.invariant) (c.requires c.loop.counter (omega arith))

pub loop-preserved : goal.loop-preserved
loop-preserved g c = c.next-c.ensures ∙ ap (g.T.Record.after c.args.s.now) c.loop.invariant ∙ sym (steps_more _ _ _)

pub record-requires : goal.record-requires
record-requires g c = subst (g.T.Record.here c.args.s.now) (sym c.loop.invariant) (c.requires c.loop.counter (omega arith))

pub returns : goal.returns
returns g c =
    let r = g.T.Record in
    let s = c.args.s.now in
    let all : c.loop.counter ≡ c.args.i = omega arith in
    c.record.ensures ∙ ap (r.read s) (c.loop.invariant ∙ ap (λ k. steps (r.after s) k (r.start s)) all)
