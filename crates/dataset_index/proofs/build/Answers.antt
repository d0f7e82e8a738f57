-- `dataset_index::build` meets its contract. Assumes nothing.
use mathlib.Core.Path.{sym, ◌∙◌}
use native.Mathlib.Omega.{arith}
use lib.ListN.{length-set}
use Rattle.laws.proofs.Emits.{emit_refused, emit_no_room, emit_done}
use Rattle.refusal.proofs.Papers.{passes}
use Rattle.tlv.specs.Entries.{framing}
use Rattle.dataset_index.specs.Index.{index_bytes}
use Rattle.dataset_index.proofs.Slots.{index_length, index_put, built_large, built_given, built_refused}
use Rattle.dataset_index.proofs.build.Goals as goal

pub returns-then-dataset-gt-MAX_BYTES : goal.returns-then-dataset-gt-MAX_BYTES
returns-then-dataset-gt-MAX_BYTES c = rw c.refuse.ensures (emit_refused _ _ _ _ _ (built_large _ c.if-dataset-gt-MAX_BYTES.true))

pub returns-in_err-table : goal.returns-in_err-table
returns-in_err-table c =
    rw (passes _ _ c.from_residual.ensures.1) (emit_refused _ _ _ _ _ (built_refused _ _ _ _ c.in_err-table.ensures))

pub returns-then-out-lt-INDEX_BYTES : goal.returns-then-out-lt-INDEX_BYTES
returns-then-out-lt-INDEX_BYTES c =
    let es = (framing c.args.dataset.now).entries in
    rw c.refuse-then-out-lt-INDEX_BYTES.ensures
    (emit_no_room _ _ (index_bytes es) (built_given _ _ c.in_ok-table.ensures.1) (omega (arith, index_length es)))

pub bounds-out-1 : goal.bounds-out-1
bounds-out-1 c = simp length-set (omega arith)

pub shape_of-out : goal.shape_of-out
shape_of-out c = c.put_slots.auto.out ∙ simp length-set

pub returns : goal.returns
returns c =
    let es = (framing c.args.dataset.now).entries in
    emit_done _ _ (index_bytes es) (built_given _ _ c.in_ok-table.ensures.1) _ _
    (sym (index_length es)) (index_put _ _ c.in_ok-table.ensures.0 _ _ c.put_slots.ensures) (omega (arith, index_length es))
