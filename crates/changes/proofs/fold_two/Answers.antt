-- `changes::fold_two` meets its contract.
use mathlib.Core.Path.{◌≡◌, refl, ◌∙◌}
use mathlib.Core.Bool.{true}
use mathlib.Core.List.{List}
use Prim.Native.Nat.{ℕ, ◌+◌, ◌*◌, ◌≤◌}
use native.Mathlib.Omega.{arith}
use lib.ListN.{length}
use borrow.Author.Rules.{rules}
use Rattle.refusal.specs.Sizes.{most_bytes, most_entries}
use Rattle.refusal.specs.Answer.{given}
use Rattle.refusal.proofs.Papers.{passes}
use Rattle.laws.proofs.Emits.{emit_refused, emit_done}
use Rattle.change_lists.specs.Operations.{encode_ops}
use Rattle.change_folds.specs.Fold.{sized_ops}
use Rattle.changes.specs.Loops.{ops_after, chosen, gone_below, encode_sets, folded_extent, room_for}
use Rattle.changes.specs.declared.Extent.{Extent}
use Rattle.change_lists.proofs.Counts.{counted_short}
use Rattle.changes.proofs.Removals.{gone_bytes}
use Rattle.changes.proofs.Rooms.{room_refused, room_given}
use Rattle.changes.proofs.Results.{put_three, ops_fit, fold_refused, fold_second_refused, fold_sized}
use Rattle.changes.proofs.Results.{fewest, fewest_bytes, fewest_parts, fewest_length, fewest_count}
use Rattle.changes.proofs.fold_two.Goals as goal

-- what is known of the result once it is found to keep the sizes and to have room
record Fits (m a b : List ℕ) (x : Extent) (room : ℕ) : Type 0 where
  bytes : length (encode_ops (fewest m a b)) ≡ x.bytes
  small : length (encode_ops (fewest m a b)) ≤ most_bytes
  few : length (fewest m a b) ≤ most_entries
  within : length (encode_ops (fewest m a b)) ≤ room
  parts : length (encode_ops (fewest m a b))
      ≡ length (encode_ops (gone_below 256 m)) + (length (encode_sets true (chosen m (ops_after 0 a))) + length (encode_sets true (chosen m (ops_after (length a) b))))
  threes : length (encode_ops (gone_below 256 m)) ≡ 3 * length (gone_below 256 m)

fits : (m a b : List ℕ) (x : Extent) (room n : ℕ) → x ≡ folded_extent m a b → given n ≡ room_for x.bytes x.entries room → Fits m a b x room
fits m a b x room n e told =
    let size = fewest_length m a b x e in
    let number = fewest_count m a b x e in
    let room = room_given _ _ _ _ told in
    record {
      bytes = size;
      small = rw size room.0;
      few = rw number room.1;
      within = rw size room.2;
      parts = fewest_parts m a b;
      threes = gone_bytes m 256;
    }

pub returns-in_err-count_operations : goal.returns-in_err-count_operations
returns-in_err-count_operations c =
    rw (passes _ _ c.from_residual.ensures.1) (emit_refused _ _ _ _ _ (fold_refused _ _ _ _ _ c.in_err-count_operations.ensures))

pub returns-in_err-count_operations-2 : goal.returns-in_err-count_operations-2
returns-in_err-count_operations-2 c =
    rw (passes _ _ c.from_residual-in_err-count_operations-2.ensures.1)
    (emit_refused _ _ _ _ _ (fold_second_refused _ _ _ c.in_ok-count_operations.ensures _ _ _ c.in_err-count_operations-2.ensures))

pub mark-requires : goal.mark-requires
mark-requires c = (search rules, counted_short _ _ _ c.in_ok-count_operations.ensures, search rules)

pub mark-marks-requires : goal.mark-marks-requires
mark-marks-requires c = (
  c.mark.ensures.full,
  counted_short _ _ _ c.in_ok-count_operations-2.ensures,
  counted_short _ _ _ c.in_ok-count_operations.ensures,
)

pub folded_extent-extent-requires : goal.folded_extent-extent-requires
folded_extent-extent-requires c = (
  counted_short _ _ _ c.in_ok-count_operations.ensures,
  counted_short _ _ _ c.in_ok-count_operations-2.ensures,
)

pub returns-in_err-room_for : goal.returns-in_err-room_for
unfolding sized_ops
returns-in_err-room_for c =
    let a = c.args.first.now in
    let b = c.args.second.now in
    let m = c.mark-marks.result in
    let first = c.in_ok-count_operations.ensures in
    let second = c.in_ok-count_operations-2.ensures in
    let whole = fold_sized a b _ first _ second (λ i. (c.type_inv.first i).fits) (λ i. (c.type_inv.second i).fits) _ m c.mark.ensures c.mark-marks.ensures in
    let bytes = fewest_length m a b _ c.folded_extent-extent.ensures in
    let number = fewest_count m a b _ c.folded_extent-extent.ensures in
    rw (whole, passes _ _ c.from_residual-in_err-room_for.ensures.1)
    (room_refused (encode_ops (fewest m a b)) c.args.out.now (length (fewest m a b)) _ _ _ bytes number refl _ _ _ c.in_err-room_for.ensures)

pub put_removals-sets-requires : goal.put_removals-sets-requires
put_removals-sets-requires c =
    let f = fits _ _ _ _ _ _ c.folded_extent-extent.ensures c.in_ok-room_for.ensures in
    omega (arith, f)

pub put_chosen-more-requires : goal.put_chosen-more-requires
put_chosen-more-requires c =
    let f = fits _ _ _ _ _ _ c.folded_extent-extent.ensures c.in_ok-room_for.ensures in (
      counted_short _ _ _ c.in_ok-count_operations.ensures,
      search rules,
      omega (arith, f, c.put_removals-sets.ensures.0, c.put_removals-sets.auto.out),
    )

pub put_chosen-requires : goal.put_chosen-requires
put_chosen-requires c =
    let f = fits _ _ _ _ _ _ c.folded_extent-extent.ensures c.in_ok-room_for.ensures in (
      counted_short _ _ _ c.in_ok-count_operations-2.ensures,
      counted_short _ _ _ c.in_ok-count_operations.ensures,
      omega (arith, f, c.put_removals-sets.ensures.0, c.put_removals-sets.auto.out, c.put_chosen-more.ensures.0, c.put_chosen-more.auto.out),
    )

pub returns : goal.returns
returns c =
    let a = c.args.first.now in
    let b = c.args.second.now in
    let m = c.mark-marks.result in
    let first = c.in_ok-count_operations.ensures in
    let second = c.in_ok-count_operations-2.ensures in
    let whole = fold_sized a b _ first _ second (λ i. (c.type_inv.first i).fits) (λ i. (c.type_inv.second i).fits) _ m c.mark.ensures c.mark-marks.ensures in
    let f = fits m a b _ _ _ c.folded_extent-extent.ensures c.in_ok-room_for.ensures in
    emit_done _ _ _ (whole ∙ ops_fit (fewest m a b) f.small f.few) _ _
    (omega (arith, f.parts, c.put_chosen.ensures.0, c.put_chosen-more.ensures.0, c.put_removals-sets.ensures.0))
    (put_three _ _ _ _ _ _ _ (encode_sets true (chosen m (ops_after 0 a))) (encode_sets true (chosen m (ops_after (length a) b))) _
    c.put_removals-sets.ensures.1 c.put_removals-sets.ensures.0 c.put_chosen-more.ensures.1 c.put_chosen-more.ensures.0 c.put_chosen.ensures.1 (fewest_bytes _ _ _))
    f.within
