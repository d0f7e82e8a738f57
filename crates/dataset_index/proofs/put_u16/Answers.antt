-- `dataset_index::put_u16` meets its contract.
use mathlib.Core.Path.{ap, ◌∙◌}
use native.Mathlib.Omega.{arith}
use Prim.Native.Nat.{◌+◌}
use lib.ListN.{length}
use Rattle.refusal.specs.Output.{put}
use Rattle.wire.proofs.Round.{length_bytes}
use Rattle.laws.proofs.Emits.{placed_next, placed_left}
use Rattle.dataset_index.proofs.put_u16.Goals as goal

pub returns : goal.returns
returns c =
    let is = c.u16_bytes.ensures in
    let size = ap length is ∙ length_bytes 2 _ in (
      placed_next _ _ _ _ _ c.put_bytes.ensures (omega (arith, size)) ∙ ap (◌+◌ _) size,
      placed_left _ _ _ _ _ c.put_bytes.ensures (omega (arith, size)) ∙ ap (put _ _) is,
    )
