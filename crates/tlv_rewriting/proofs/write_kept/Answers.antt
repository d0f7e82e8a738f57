-- `tlv_rewriting::write_kept` meets its contract.
use mathlib.Core.Path.{◌≡◌, ap}
use mathlib.Core.List.{List}
use Prim.Native.Nat.{ℕ}
use native.Mathlib.Omega.{arith}
use Rattle.refusal.specs.Answer.{given}
use Rattle.refusal.proofs.Papers.{passes}
use Rattle.laws.proofs.Emits.{emit_refused, emit_no_room, emit_done}
use Rattle.tlv.specs.Entries.{contents, framing}
use Rattle.tlv.specs.Limits.{count}
use Rattle.tlv_writing.specs.Encode.{encode_all}
use Rattle.tlv_rewriting.specs.Rewrite.{kept, rewritten}
use Rattle.tlv_rewriting.specs.declared.Choice.{Choice}
use Rattle.tlv_rewriting.specs.declared.Extent.{Extent}
use Rattle.tlv.proofs.Tally.{answers_given, answers_refused, counted_short}
use Rattle.tlv_rewriting.proofs.write_kept.Goals as goal

-- what is written once the input is counted
written : (c : Choice) (s : List ℕ) (n : ℕ) → given n ≡ count 0 s → rewritten c s ≡ given (encode_all (kept c (contents (framing s).entries)))
unfolding rewritten
written c s n told = answers_given _ _ _ _ told

pub returns-in_err-count_entries : goal.returns-in_err-count_entries
unfolding rewritten
returns-in_err-count_entries c =
    rw (passes _ _ c.from_residual.ensures.1) (emit_refused _ _ _ _ _ (answers_refused _ _ _ _ _ _ (c.in_err-count_entries.ensures)))

pub kept_extent-extent-requires : goal.kept_extent-extent-requires
kept_extent-extent-requires c = counted_short _ _ _ (c.in_ok-count_entries.ensures)

pub returns-then-need-out : goal.returns-then-need-out
returns-then-need-out c =
    let told = c.in_ok-count_entries.ensures in
    rw c.refuse.ensures (emit_no_room _ _ _ (written _ _ _ told) (omega (arith, ap (λ (x : Extent). x.bytes) c.kept_extent-extent.ensures.0)))

pub put_kept-requires : goal.put_kept-requires
put_kept-requires c =
    let told = c.in_ok-count_entries.ensures in
    (counted_short _ _ _ told, omega (arith, ap (λ (x : Extent). x.bytes) c.kept_extent-extent.ensures.0))

pub returns : goal.returns
returns c =
    let told = c.in_ok-count_entries.ensures in
    let need = ap (λ (x : Extent). x.bytes) c.kept_extent-extent.ensures.0 in
    emit_done _ _ _ (written _ _ _ told) _ _ need c.put_kept.ensures (omega arith)
