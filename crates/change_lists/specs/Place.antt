-- What stands at a place of a list, by places: the code's own language. `op_agrees` (proofs/Places.antt): it is what `first_op` finds there.
-- Assumes nothing.
use Rattle.std.specs.Prelude.{ℕ, ◌+◌, ◌-◌, List, length, get_or, ltb, leb, eqb}
use Rattle.refusal.specs.Answer.{pick}
use Rattle.tlv.specs.declared.Frame.{Frame}
use Rattle.tlv.specs.declared.Frame.TheVariants as f
use Rattle.tlv.specs.Place.{frame_at}
use Rattle.change_lists.specs.declared.OpFrame.{OpFrame}
use Rattle.change_lists.specs.declared.OpFrame.TheVariants as o

-- a set of the entry that stands after the mark
unfoldable pub set_at : Frame → OpFrame
set_at (f.Entry t a n) = o.Set t a n
set_at f.Cut = o.Bad
set_at f.End = o.Bad

unfoldable pub op_frame_at : List ℕ → ℕ → OpFrame
op_frame_at s at =
    pick (leb (length s) at) o.End
    (pick (ltb (length s - at) 3) o.Bad
    (pick (eqb (get_or s at 0) 83) (pick (eqb (get_or s (at + 1) 0) 69) (set_at (frame_at s (at + 2))) o.Bad)
    (pick (eqb (get_or s at 0) 82) (pick (eqb (get_or s (at + 1) 0) 77) (o.Remove (get_or s (at + 2) 0)) o.Bad) o.Bad)))
