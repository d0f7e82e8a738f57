-- `changes::put_removals` meets its contract. The invariant: the removals of the types below t are stored.
use mathlib.Core.Path.{◌≡◌}
use Prim.Native.Nat.{◌*◌, ◌≤◌}
use lib.ListN.{length}
use Rattle.refusal.specs.Output.{put}
use Rattle.change_lists.specs.Operations.{encode_ops}
use Rattle.changes.specs.Loops.{gone_below}
use Rattle.changes.proofs.put_removals.Given as goal

abbrev pub invariant-loop-t : goal.invariant-loop-t
invariant-loop-t l = (length l.out ≡ length l.initial.out) × (l.to ≡ length (encode_ops (gone_below l.t l.marks)))
    × (l.out ≡ put l.initial.out 0 (encode_ops (gone_below l.t l.marks))) × (l.to ≤ 3 * l.t)
