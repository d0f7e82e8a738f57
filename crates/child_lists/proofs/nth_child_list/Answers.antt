-- `child_lists::nth_child_list` meets its contract.
use mathlib.Core.Path.{ap, ◌∙◌}
use Rattle.refusal.specs.Answer.{on_given}
use Rattle.refusal.specs.Numbered.{nth}
use Rattle.tlv.specs.Walk.{left}
use Rattle.tlv_last.specs.Last.{spot}
use Rattle.diag_entries.specs.Parts.{all_of}
use Rattle.child_lists.proofs.Lists.{nth_here, nth_past, nth_other, nth_none}
use Rattle.child_lists.proofs.nth_child_list.Goals as goal

pub loop-entry-init : goal.loop-entry-init
loop-entry-init c =
    ap (λ es. nth (all_of 30 es) c.args.k) (ap left c.into_iter-entry-iterator.ensures.into_iter_gives ∙ c.entries_from-entry-items.ensures)

pub returns-then-left-eq0 : goal.returns-then-left-eq0
returns-then-left-eq0 c =
    nth_here _ _ _ _ c.in-Some.ensures.steps c.if-entry-eq-CHILD_IPV6_ADDRESSES.true c.if-left-eq0.true ∙ ap (on_given spot) c.loop-entry.invariant

pub loop-entry-preserved-then-entry-eq-CHILD_IPV6_ADDRESSES : goal.loop-entry-preserved-then-entry-eq-CHILD_IPV6_ADDRESSES
loop-entry-preserved-then-entry-eq-CHILD_IPV6_ADDRESSES c =
    nth_past _ _ _ _ c.in-Some.ensures.steps c.if-entry-eq-CHILD_IPV6_ADDRESSES.true c.if-left-eq0.false ∙ c.loop-entry.invariant

pub loop-entry-preserved : goal.loop-entry-preserved
loop-entry-preserved c = nth_other _ _ _ _ c.in-Some.ensures.steps c.if-entry-eq-CHILD_IPV6_ADDRESSES.false ∙ c.loop-entry.invariant

pub returns : goal.returns
returns c = nth_none _ _ c.in-None.ensures.steps.0 ∙ ap (on_given spot) c.loop-entry.invariant
