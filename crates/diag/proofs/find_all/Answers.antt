-- `diag::find_all` meets its contract.
use native.Mathlib.Omega.{arith}
use Rattle.std.proofs.lemmas.List.{take_all}
use Rattle.diag.proofs.Finds.{find_start, find_more, find_skip, find_list, find_other, find_end}
use Rattle.diag.proofs.find_all.Goals as goal
use Rattle.diag.proofs.find_all.Goals.{then-entry-lt32, else-entry-lt32}

pub loop-entry-init : goal.loop-entry-init
loop-entry-init c = find_start _ _ (grind (arith, take_all))

pub loop-entry-preserved-then-entry-eq-CHILD_IPV6_ADDRESSES : goal.loop-entry-preserved-then-entry-eq-CHILD_IPV6_ADDRESSES
loop-entry-preserved-then-entry-eq-CHILD_IPV6_ADDRESSES c =
    let count = find_list _ _ _ _ _ _ c.in-Some.ensures.steps c.loop-entry.invariant c.if-entry-eq-CHILD_IPV6_ADDRESSES.true in
    elim c.if-entry-lt32.branch [
      | then-entry-lt32 w ↦ rw w.p-is (find_more _ _ _ _ _ _ c.in-Some.ensures.steps c.loop-entry.invariant _ count (omega arith) w.if-entry-lt32.true)
      | else-entry-lt32 w ↦ rw w.p-is (find_skip _ _ _ _ _ _ c.in-Some.ensures.steps c.loop-entry.invariant _ count (omega arith) w.if-entry-lt32.false)
    ]

pub loop-entry-preserved : goal.loop-entry-preserved
loop-entry-preserved c =
    let count = find_other _ _ _ _ _ _ c.in-Some.ensures.steps c.loop-entry.invariant c.if-entry-eq-CHILD_IPV6_ADDRESSES.false in
    elim c.if-entry-lt32.branch [
      | then-entry-lt32 w ↦ rw w.p-is (find_more _ _ _ _ _ _ c.in-Some.ensures.steps c.loop-entry.invariant _ count (omega arith) w.if-entry-lt32.true)
      | else-entry-lt32 w ↦ rw w.p-is (find_skip _ _ _ _ _ _ c.in-Some.ensures.steps c.loop-entry.invariant _ count (omega arith) w.if-entry-lt32.false)
    ]

pub returns : goal.returns
returns c = find_end _ _ _ c.in-None.ensures.steps.0 c.loop-entry.invariant
