-- The type whose value has no rule of its own: "PSKc, any" (document 01).
-- Assumes nothing.
use Rattle.std.specs.Prelude.{ℕ, List, [], ◌∷◌}

-- the Rust's number of it
abbrev pub raw_types : List ℕ
raw_types = 0x04 ∷ []
