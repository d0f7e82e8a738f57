-- What stands at a place of the input, by places: the code's own language. `frame_agrees` (proofs/Walks.antt): it is what `first` finds there.
-- Assumes nothing.
use Rattle.std.specs.Prelude.{ℕ, ◌+◌, ◌-◌, ◌*◌, List, length, get_or, ltb, leb, eqb}
use Rattle.refusal.specs.Answer.{pick}
use Rattle.tlv.specs.declared.Frame.{Frame}
use Rattle.tlv.specs.declared.Frame.TheVariants as f

-- an entry of type t whose value is the n bytes from place a on, or Cut where s ends before them
unfoldable pub value_at : List ℕ → (ty start len : ℕ) → Frame
value_at s t a n = pick (leb n (length s - a)) (f.Entry t a n) f.Cut

unfoldable pub frame_at : List ℕ → ℕ → Frame
frame_at s at =
    pick (leb (length s) at) f.End
    (pick (ltb (length s - at) 2) f.Cut
    (pick (eqb (get_or s (at + 1) 0) 255)
    (pick (ltb (length s - at) 4) f.Cut (value_at s (get_or s at 0) (at + 4) (get_or s (at + 2) 0 * 256 + get_or s (at + 3) 0)))
    (value_at s (get_or s at 0) (at + 2) (get_or s (at + 1) 0))))
