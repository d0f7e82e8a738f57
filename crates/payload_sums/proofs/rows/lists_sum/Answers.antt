-- `payload_sums::rows::lists_sum` meets its contract.
use mathlib.Core.Path.{ap, ◌∙◌}
use Rattle.value_sums.specs.Sums.{plus}
use Rattle.tlv.specs.Walk.{left}
use Rattle.diag_entries.specs.Parts.{all_of}
use Rattle.payload_sums.specs.Rows.{lists_onto}
use Rattle.payload_sums.proofs.Rowed.{lists_more, lists_other, lists_done}
use Rattle.payload_sums.proofs.rows.lists_sum.Goals as goal

pub loop-entry-init : goal.loop-entry-init
loop-entry-init c =
    ap (λ es. lists_onto 0 (all_of 30 es)) (ap left c.into_iter-entry-iterator.ensures.into_iter_gives ∙ c.entries-entry-items.ensures)

pub loop-entry-preserved-then-entry-eq-CHILD_IPV6_ADDRESSES : goal.loop-entry-preserved-then-entry-eq-CHILD_IPV6_ADDRESSES
loop-entry-preserved-then-entry-eq-CHILD_IPV6_ADDRESSES c =
    lists_more _ _ _ c.in-Some.ensures.steps _ _ c.loop-entry.invariant c.if-entry-eq-CHILD_IPV6_ADDRESSES.true _ (c.plus-n.ensures ∙ ap (plus _) c.list_sum.ensures)

pub loop-entry-preserved : goal.loop-entry-preserved
loop-entry-preserved c = lists_other _ _ _ c.in-Some.ensures.steps _ _ c.loop-entry.invariant c.if-entry-eq-CHILD_IPV6_ADDRESSES.false

pub returns : goal.returns
returns c = lists_done _ _ _ c.in-None.ensures.steps.0 c.loop-entry.invariant
