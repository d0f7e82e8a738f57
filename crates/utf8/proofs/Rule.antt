-- The rule of the table of classes, from one test that computes over its 256 entries.
-- Assumes nothing.
use mathlib.Core.Path.{◌≡◌}
use mathlib.Core.List.{List, ◌∷◌, ◌++◌}
use Prim.Native.Nat.{ℕ, ◌<◌}
use lib.Dec.{eqb, eqb→eq}
use lib.ListN.{get_or, replicate}
use Rattle.utf8.specs.Utf8.{class_of}
use Rattle.laws.proofs.Below.{below}

-- the table of src/classes.rt: the code's own has to compute to this list
abbrev pub classes : List ℕ
classes = replicate 128 1 ++ (replicate 66 0 ++ (replicate 30 2 ++ (3 ∷ (replicate 12 4 ++ (5 ∷ 4 ∷ 4 ∷ 6 ∷ 7 ∷ 7 ∷ 7 ∷ 8 ∷ replicate 11 0)))))

pub rule : (b : ℕ) → b < 256 → get_or classes b 0 ≡ class_of b
unfolding class_of
rule b h = eqb→eq (get_or classes b 0) (class_of b) (below (λ (k : ℕ). eqb (get_or classes k 0) (class_of k)) 256 tt b h)
