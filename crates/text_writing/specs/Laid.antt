-- Text in a lent output as far as there is room: where the writers store, and how they count on past the end of the output.
-- Assumes nothing.
use Rattle.std.specs.Prelude.{ℕ, ◌+◌, ◌-◌, ◌^◌, List, [], ◌∷◌, set, ltb}
use Rattle.refusal.specs.Answer.{pick}
use Rattle.refusal.specs.Output.{Placed, placing}

-- the last place that is counted, past the end of every output: the count stops there, so that no sum wraps
abbrev pub last_place : ℕ
last_place = 2 ^ 64 - 1

-- the place after
unfoldable pub place_after : ℕ → ℕ
place_after at = pick (ltb at last_place) (at + 1) at

-- out, with each byte of the text from the place at on that has a place in it, and the place after the text (`laid_fits`, proofs/Lays.antt: where the count
-- does not stop, that is at + the length, and the text is `put`)
unfoldable pub laid : (at : ℕ) → (out text : List ℕ) → Placed
laid at out [] = placing at out
laid at out (b ∷ bs) = laid (place_after at) (set out at b) bs
