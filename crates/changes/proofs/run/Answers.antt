-- `changes::run` meets its contract.
use mathlib.Core.Path.{◌≡◌, refl, ◌∙◌}
use mathlib.Core.Bool.{false}
use mathlib.Core.List.{List}
use Prim.Native.Nat.{ℕ, ◌+◌, ◌≤◌}
use native.Mathlib.Omega.{arith}
use lib.ListN.{length}
use borrow.Author.Rules.{rules}
use Rattle.refusal.specs.Sizes.{most_bytes, most_entries}
use Rattle.refusal.specs.Answer.{given}
use Rattle.refusal.proofs.Papers.{passes}
use Rattle.laws.proofs.Emits.{emit_done}
use Rattle.tlv.specs.Entries.{contents, framing}
use Rattle.tlv_writing.specs.Encode.{encode_all, sized}
use Rattle.tlv.proofs.Tally as tally
use Rattle.tlv_writing.proofs.Several.{sized_is}
use Rattle.changes.specs.Loops.{ops_after, spared, chosen, encode_sets, extent_of, room_for}
use Rattle.changes.specs.declared.Extent.{Extent}
use Rattle.change_lists.proofs.Counts.{counted_short}
use Rattle.changes.proofs.Rooms.{room_refused, room_given}
use Rattle.changes.proofs.Results.{put_both, left, run_sized, left_bytes, left_spared, left_chosen, left_length, left_count}
use Rattle.changes.proofs.run.Goals as goal

-- and once the result is found to keep the sizes and to have room
fits : (d l m : List ℕ) (x y : Extent) (room n : ℕ) → x ≡ extent_of (spared m (contents (framing d).entries)) → y ≡ extent_of (chosen m (ops_after 0 l))
    → given n ≡ room_for (x.bytes + y.bytes) (x.entries + y.entries) room
    → (length (encode_all (left m d l)) ≤ most_bytes) × (length (left m d l) ≤ most_entries) × (length (encode_all (left m d l)) ≤ room)
fits d l m x y room n e f told = rw (left_length m d l x y e f, left_count m d l x y e f) (room_given _ _ _ _ told)

pub mark-marks-requires : goal.mark-marks-requires
mark-marks-requires c = (search rules, counted_short _ _ _ c.in_ok-count_operations.ensures, search rules)

pub spared_extent-spared-requires : goal.spared_extent-spared-requires
spared_extent-spared-requires c = tally.counted_short _ _ _ c.in_ok-count_entries.ensures

pub chosen_extent-chosen-requires : goal.chosen_extent-chosen-requires
chosen_extent-chosen-requires c = (counted_short _ _ _ c.in_ok-count_operations.ensures, search rules)

pub returns-in_err-room_for : goal.returns-in_err-room_for
unfolding sized
returns-in_err-room_for c =
    let d = c.args.dataset.now in
    let l = c.args.list.now in
    let m = c.mark-marks.result in
    let whole = run_sized d l _ c.in_ok-count_entries.ensures _ c.in_ok-count_operations.ensures (λ i. (c.type_inv.list i).fits) m c.mark-marks.ensures in
    let bytes = left_length m d l _ _ c.spared_extent-spared.ensures.0 c.chosen_extent-chosen.ensures.0 in
    let number = left_count m d l _ _ c.spared_extent-spared.ensures.0 c.chosen_extent-chosen.ensures.0 in
    rw (whole, passes _ _ c.from_residual-in_err-room_for.ensures.1)
    (room_refused (encode_all (left m d l)) c.args.out.now (length (left m d l)) _ _ _ bytes number refl _ _ _ c.in_err-room_for.ensures)

pub put_spared-to-requires : goal.put_spared-to-requires
put_spared-to-requires c =
    let d = c.args.dataset.now in
    let l = c.args.list.now in
    let m = c.mark-marks.result in
    let e = c.spared_extent-spared.ensures.0 in
    let f = c.chosen_extent-chosen.ensures.0 in
    let g = fits d l m _ _ _ _ e f c.in_ok-room_for.ensures in
    (tally.counted_short _ _ _ c.in_ok-count_entries.ensures, omega (arith, left_length m d l _ _ e f, left_spared m d l _ _ e f, g))

pub put_chosen-requires : goal.put_chosen-requires
put_chosen-requires c =
    let d = c.args.dataset.now in
    let l = c.args.list.now in
    let m = c.mark-marks.result in
    let e = c.spared_extent-spared.ensures.0 in
    let f = c.chosen_extent-chosen.ensures.0 in
    let g = fits d l m _ _ _ _ e f c.in_ok-room_for.ensures in (
      counted_short _ _ _ c.in_ok-count_operations.ensures,
      search rules,
      omega (arith, left_length m d l _ _ e f, left_spared m d l _ _ e f, left_chosen m d l _ _ e f, g, c.put_spared-to.ensures.0, c.put_spared-to.auto.out),
    )

pub returns : goal.returns
returns c =
    let d = c.args.dataset.now in
    let l = c.args.list.now in
    let m = c.mark-marks.result in
    let whole = run_sized d l _ c.in_ok-count_entries.ensures _ c.in_ok-count_operations.ensures (λ i. (c.type_inv.list i).fits) m c.mark-marks.ensures in
    let e = c.spared_extent-spared.ensures.0 in
    let f = c.chosen_extent-chosen.ensures.0 in
    let g = fits d l m _ _ _ _ e f c.in_ok-room_for.ensures in
    emit_done _ _ _ (whole ∙ sized_is (left m d l) g.0 g.1) _ _
    (omega (arith, left_length m d l _ _ e f, left_spared m d l _ _ e f, left_chosen m d l _ _ e f, c.put_chosen.ensures.0, c.put_spared-to.ensures.0))
    (put_both _ _ _ _ _ (encode_sets false (chosen m (ops_after 0 l))) _ c.put_spared-to.ensures.1 c.put_spared-to.ensures.0 c.put_chosen.ensures.1 (left_bytes _ _ _))
    g.2
