-- What the reads of a channel and a policy cite: two bytes of a value of known length as a number.
-- Assumes nothing.
use mathlib.Core.Path.{◌≡◌}
use mathlib.Core.List.{List, [], ◌∷◌}
use Prim.Native.Nat.{ℕ, ◌+◌, ◌*◌}
use native.Mathlib.Omega.{arith}
use lib.ListN.{length, take, drop, get_or}
use Rattle.wire.specs.Be.{be, be_from}

pub two_of_three : (v : List ℕ) → length v ≡ 3 → get_or v 1 0 * 256 + get_or v 2 0 ≡ be (drop 1 v)
unfolding be be_from
two_of_three [] h = absurd (omega arith)
two_of_three (a ∷ []) h = absurd (omega arith)
two_of_three (a ∷ b ∷ []) h = absurd (omega arith)
two_of_three (a ∷ b ∷ c ∷ []) h = omega arith
two_of_three (a ∷ b ∷ c ∷ d ∷ r) h = absurd (omega arith)

pub two_and_two : (v : List ℕ) → length v ≡ 4 → (get_or v 0 0 * 256 + get_or v 1 0 ≡ be (take 2 v)) × (get_or v 2 0 * 256 + get_or v 3 0 ≡ be (drop 2 v))
unfolding be be_from
two_and_two [] h = absurd (omega arith)
two_and_two (a ∷ []) h = absurd (omega arith)
two_and_two (a ∷ b ∷ []) h = absurd (omega arith)
two_and_two (a ∷ b ∷ c ∷ []) h = absurd (omega arith)
two_and_two (a ∷ b ∷ c ∷ d ∷ []) h = (omega arith, omega arith)
two_and_two (a ∷ b ∷ c ∷ d ∷ e ∷ r) h = absurd (omega arith)
