-- `tlv::count_entries` meets its contract. The invariant: counting on from the place at, with n entries passed, gives the answer.
-- The measure is what is left of the input. Assumes nothing.
use mathlib.Core.Path.{sym, ap, ◌∙◌}
use Prim.Native.Nat.{◌≤◌}
use native.Mathlib.Omega.{arith}
use lib.ListN.{length}
use borrow.Author.Rules.{rules}
use borrow.Author.Tests.{lt-ltb, le-ltb}
use Rattle.refusal.specs.Sizes.{most_bytes}
use Rattle.tlv.specs.Limits.{count, framed}
use Rattle.tlv.proofs.Walks.{turn_end, turn_cut, turn_entry, turn_inside}
use Rattle.tlv.proofs.Tally.{tally, tally_start, tally_at, tally_off, tally_end, tally_cut}
use Rattle.tlv.proofs.count_entries.Goals as goal
use Rattle.tlv.proofs.count_entries.Goals.{then-n-eq-MAX_ENTRIES, else-n-eq-MAX_ENTRIES}

pub returns-then-s-gt-MAX_BYTES : goal.returns-then-s-gt-MAX_BYTES
unfolding count framed
returns-then-s-gt-MAX_BYTES c = simp (lt-ltb most_bytes _ c.if-s-gt-MAX_BYTES.true)

pub loop-start-init : goal.loop-start-init
unfolding count framed
loop-start-init c =
    let short : length c.args.s.now ≤ most_bytes = omega arith in
    (search rules, search rules, simp (le-ltb _ _ short) (tally_start _ _))

pub returns-in-End : goal.returns-in-End
returns-in-End c =
    let end = turn_end _ _ _ c.frame_at.ensures c.in-End.is in
    let goes_on = ap (tally _ _ _) (sym end) ∙ c.loop-start.invariant.2 in
    c.stopped.ensures ∙ (sym (tally_end _ _ _) ∙ goes_on)

pub returns-in-Cut : goal.returns-in-Cut
returns-in-Cut c =
    let cut = turn_cut _ _ _ c.frame_at.ensures c.in-Cut.is in
    let goes_on = ap (tally _ _ _) (sym cut) ∙ c.loop-start.invariant.2 in
    c.stopped-in-Cut.ensures ∙ (sym (tally_cut _ _ _ _) ∙ goes_on)

-- t is the place where the arm has bound the entry's fields, and h where `frame_at` has returned
pub overflow_add-n : goal.overflow_add-n
overflow_add-n c = omega (arith, turn_inside _ _ _ c.frame_at.ensures _ _ _ c.in-Entry.is)

pub overflow_add-at : goal.overflow_add-at
overflow_add-at c = omega (arith, turn_inside _ _ _ c.frame_at.ensures _ _ _ c.in-Entry.is)

pub loop-start-smaller : goal.loop-start-smaller
loop-start-smaller c = omega (arith, turn_inside _ _ _ c.frame_at.ensures _ _ _ c.in-Entry.is)

pub loop-start-preserved : goal.loop-start-preserved
loop-start-preserved c =
    let inside = turn_inside _ _ _ c.frame_at.ensures _ _ _ c.in-Entry.is in
    let entry = turn_entry _ _ _ c.frame_at.ensures _ _ _ c.in-Entry.is in
    let goes_on = ap (tally _ _ _) (sym entry) ∙ c.loop-start.invariant.2 in (
      inside.1,
      omega (arith, inside),
      elim c.if-n-eq-MAX_ENTRIES.branch [
        | then-n-eq-MAX_ENTRIES w ↦ rw w.over-is (sym (tally_at _ _ _ _ w.if-n-eq-MAX_ENTRIES.true _) ∙ goes_on)
        | else-n-eq-MAX_ENTRIES w ↦ rw w.over-is (sym (tally_off _ _ _ _ w.if-n-eq-MAX_ENTRIES.false _) ∙ goes_on)
      ],
    )
