-- `index_edits::set_raw` meets its contract. Assumes nothing.
use Rattle.refusal.proofs.Papers.{passes}
use mathlib.Core.Path.{sym, ap, ◌∙◌}
use Prim.Native.Nat.{◌<◌}
use native.Mathlib.Omega.{arith}
use lib.ListN.{length}
use Rattle.dataset_index.specs.Index.{index_size}
use Rattle.index_edits.proofs.Both.{load_stops, load_passes, no_index, edit_lies, both_left}
use Rattle.index_edits.proofs.Updated.{set_built}
use Rattle.index_edits.proofs.set_raw.Goals as goal
use Rattle.refusal.specs.Results.{answer_of}

pub returns-in_err-load : goal.returns-in_err-load
returns-in_err-load c = rw (passes _ _ c.from_residual.ensures.1) (load_stops _ _ _ _ _ _ _ _ c.in_err-load.ensures)

pub returns-then-index-lt-INDEX_BYTES : goal.returns-then-index-lt-INDEX_BYTES
returns-then-index-lt-INDEX_BYTES c =
    let short : length c.args.index.now < index_size = omega (arith, c.if-index-lt-INDEX_BYTES.true) in
    rw c.no_room_for.ensures
    (load_passes _ _ _ _ _ c.in_ok-load.ensures _
    (no_index _ _ short _ _ _ _ c.set_raw.ensures))

pub put_index-requires : goal.put_index-requires
put_index-requires c = edit_lies _ _ _ _ c.set_raw-written.ensures

pub returns : goal.returns
returns c =
    rw (c.put_index.ensures.0, c.put_index.ensures.1)
    (load_passes _ _ _ _ _ c.in_ok-load.ensures _
    (both_left _ _ c.if-index-lt-INDEX_BYTES.false _ _ _ c.set_raw-written.ensures (λ bs h. set_built _ _ _ bs h)))
