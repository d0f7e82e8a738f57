-- What holds of each element of a list, and lists of bytes.
-- Assumes nothing.
use Rattle.std.specs.Prelude.{ℕ, ◌<◌, List, [], ◌∷◌}

-- P of each element
abbrev pub Every : {A : Type 0} → (A → Type 0) → List A → Type 0
Every P [] = Unit {0}
Every P (x ∷ xs) = P x × Every P xs

-- each is a byte
abbrev pub Bytes : List ℕ → Type 0
Bytes s = Every (λ (b : ℕ). b < 256) s
