-- `dataset_index::collect` meets its contract: each turn notes the next of the entries that are left.
use borrow.Author.Rules.{rules}
use borrow.Author.Tests.{le-ltb}
use mathlib.Core.Path.{sym, ap, ◌∙◌}
use Prim.Native.Nat.{◌≤◌}
use native.Mathlib.Omega.{arith}
use lib.ListN.{length}
use Rattle.refusal.specs.Sizes.{most_bytes}
use Rattle.refusal.specs.Answer.{given}
use Rattle.refusal.proofs.Papers.{passes}
use Rattle.tlv.specs.Limits.{count, framed}
use Rattle.tlv.specs.Walk.{left}
use Rattle.tlv.proofs.Left.{left_start}
use Rattle.tlv.proofs.Tally.{tally, tally_start, tally_at, tally_off, tally_end, tally_cut, counted_number}
use Rattle.dataset_index.proofs.Tables.{next, ends, find_start, find_more, find_end, refuses}
use Rattle.dataset_index.proofs.collect.Goals as goal
use Rattle.dataset_index.proofs.collect.Goals.{then-n-eq-MAX_ENTRIES, else-n-eq-MAX_ENTRIES}

pub loop-entry-init : goal.loop-entry-init
unfolding count framed
loop-entry-init c =
    let short : length c.args.s.now ≤ most_bytes = c.requires in
    let all = ap left c.into_iter-entry-iterator.ensures.into_iter_gives ∙ c.entries-entry-items.ensures in (
      left_start _ ∙ sym all,
      search rules,
      search rules,
      simp (le-ltb _ _ short) (tally_start _ _),
      rw (c.no_entries-table.ensures.0, c.no_entries-table.ensures.1) (find_start _ _ all),
    )

pub overflow_cast-table : goal.overflow_cast-table
overflow_cast-table c =
    let inv = c.loop-entry.invariant in
    let here = next _ _ _ _ (inv.0 ∙ c.in-Some.ensures.steps) in
    omega (arith, here, c.requires)

pub overflow_add-end : goal.overflow_add-end
overflow_add-end c =
    let inv = c.loop-entry.invariant in
    let here = next _ _ _ _ (inv.0 ∙ c.in-Some.ensures.steps) in
    omega (arith, here, c.requires)

pub loop-entry-preserved : goal.loop-entry-preserved
loop-entry-preserved c =
    let inv = c.loop-entry.invariant in
    let steps = c.in-Some.ensures.steps in
    let here = next _ _ _ _ (inv.0 ∙ steps) in
    let goes_on = ap (tally _ _ _) (sym here.3) ∙ inv.3 in (
      here.4,
      here.2,
      omega (arith, here, inv.2),
      elim c.if-n-eq-MAX_ENTRIES.branch [
        | then-n-eq-MAX_ENTRIES w ↦ rw w.over-is (sym (tally_at _ _ _ _ w.if-n-eq-MAX_ENTRIES.true _) ∙ goes_on)
        | else-n-eq-MAX_ENTRIES w ↦ rw w.over-is (sym (tally_off _ _ _ _ w.if-n-eq-MAX_ENTRIES.false _) ∙ goes_on)
      ],
      find_more _ _ _ _ _ _ _ steps inv.4 (search rules),
    )

pub returns-then-end-s : goal.returns-then-end-s
returns-then-end-s c =
    let inv = c.loop-entry.invariant in
    let over = (ends _ _ (inv.0 ∙ c.in-None.ensures.steps.0)).0 c.if-end-s.true in
    refuses _ _ _ _ _ c.refuse.ensures (sym (tally_cut _ _ _ _) ∙ ap (tally _ _ _) (sym over) ∙ inv.3)

pub returns-in_err-stopped : goal.returns-in_err-stopped
returns-in_err-stopped c =
    let inv = c.loop-entry.invariant in
    let over = (ends _ _ (inv.0 ∙ c.in-None.ensures.steps.0)).1 c.if-end-s.false in
    rw (passes _ _ c.from_residual.ensures.1) (c.in_err-stopped.ensures ∙ (sym (tally_end _ _ _) ∙ ap (tally _ _ _) (sym over) ∙ inv.3))

pub returns : goal.returns
returns c =
    let inv = c.loop-entry.invariant in
    let over = (ends _ _ (inv.0 ∙ c.in-None.ensures.steps.0)).1 c.if-end-s.false in
    let told = c.in_ok-stopped.ensures ∙ (sym (tally_end _ _ _) ∙ ap (tally _ _ _) (sym over) ∙ inv.3) in
    (find_end _ _ _ _ c.in-None.ensures.steps.0 inv.4, ap given (sym (counted_number _ _ _ told)) ∙ told)
