-- `pairing::count_lists` meets its contract.
use mathlib.Core.Path.{sym, ap, ◌∙◌}
use native.Mathlib.Omega.{arith}
use Rattle.diag_entries.proofs.Passed.{passed_start, passed_more}
use Rattle.pairing.specs.Loops.{keys_of}
use Rattle.pairing.proofs.Tallies.{counting_start, counting_more, counting_other, counting_end, counting_same, placing_start, placing_more, placing_other, placing_end, placing_same}
use Rattle.pairing.proofs.Ids.{lists_hit, lists_miss, lists_none, keys_own, keys_other, keys_none}
use Rattle.pairing.proofs.count_lists.Goals as goal

pub loop-entry-init : goal.loop-entry-init
loop-entry-init c =
    rw (c.into_iter-entry-iterator.ensures.into_iter_gives, c.entries-entry-items.ensures) (placing_start _, counting_start _, passed_start _)

pub loop-entry-preserved-then-is_own : goal.loop-entry-preserved-then-is_own
loop-entry-preserved-then-is_own c =
    let l = c.loop-entry in
    let steps = c.in-Some.ensures.steps in
    let hit = lists_hit _ _ _ steps c.if-entry-eq-CHILD_IPV6_ADDRESSES.true _ c.list_rloc16-rloc16.ensures in
    let key = keys_own _ _ _ _ hit (sym c.is_own.ensures ∙ c.if-is_own.true) in (
      placing_more _ _ _ _ _ _ key (omega arith) _ _ (omega arith) (omega arith) l.invariant.0,
      counting_more _ _ _ _ _ _ key (omega arith) _ (omega arith) l.invariant.1,
      passed_more _ _ _ _ _ steps l.invariant.2 _ (omega arith),
    )

pub loop-entry-preserved-else-is_own : goal.loop-entry-preserved-else-is_own
loop-entry-preserved-else-is_own c =
    let l = c.loop-entry in
    let steps = c.in-Some.ensures.steps in
    let hit = lists_hit _ _ _ steps c.if-entry-eq-CHILD_IPV6_ADDRESSES.true _ c.list_rloc16-rloc16.ensures in
    let key = keys_other _ _ _ _ hit (sym c.is_own.ensures ∙ c.if-is_own.false) in (
      placing_other _ _ _ _ _ key _ (omega arith) l.invariant.0,
      counting_other _ _ _ _ _ key _ (omega arith) l.invariant.1,
      passed_more _ _ _ _ _ steps l.invariant.2 _ (omega arith),
    )

pub loop-entry-preserved : goal.loop-entry-preserved
loop-entry-preserved c =
    let l = c.loop-entry in
    let steps = c.in-Some.ensures.steps in
    let miss = lists_miss _ _ _ steps c.if-entry-eq-CHILD_IPV6_ADDRESSES.false in (
      placing_same _ _ _ _ _ (ap (keys_of _) miss) l.invariant.0,
      counting_same _ _ _ _ _ (ap (keys_of _) miss) l.invariant.1,
      passed_more _ _ _ _ _ steps l.invariant.2 _ (omega arith),
    )

pub returns : goal.returns
returns c =
    let l = c.loop-entry in
    let none = keys_none _ _ (lists_none _ c.in-None.ensures.steps.0) in
    (counting_end _ _ _ _ none l.invariant.1, placing_end _ _ _ _ none l.invariant.0)
