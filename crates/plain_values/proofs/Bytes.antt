-- A byte put back in its own place changes nothing.
-- Assumes nothing.
use mathlib.Core.Path.{◌≡◌}
use mathlib.Core.List.{List}
use Prim.Native.Nat.{ℕ}
use lib.ListN.{get_or, set}
use Rattle.std.proofs.lemmas.List.{set-get_or}

pub same_byte : (s : List ℕ) (i : ℕ) → set s i (get_or s i 0) ≡ s
same_byte s i = set-get_or s i 0
