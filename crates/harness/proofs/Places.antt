-- The laws of `bytes_before`, for the loop that looks for a byte.
-- Assumes nothing.
use mathlib.Core.Path.{◌≡◌}
use mathlib.Core.Bool.{true, false}
use mathlib.Core.List.{List}
use Prim.Native.Nat.{ℕ, suc, ◌+◌, ◌≤◌, ◌<◌}
use native.Mathlib.Numerals.{add-one}
use lib.ListN.{length, drop, get_or, drop_of_length-le}
use lib.Seq.{drop-cons}
use lib.Dec.{eqb}
use Rattle.harness.specs.Places.{bytes_before}

module _ (stop : ℕ) (s : List ℕ) (i : ℕ) where
  pub before_here : i < length s → eqb (get_or s i 0) stop ≡ true → bytes_before stop (drop i s) ≡ 0
  unfolding bytes_before
  before_here h e = rw (drop-cons s i 0) (simp e)

  pub before_next : i < length s → eqb (get_or s i 0) stop ≡ false → bytes_before stop (drop i s) ≡ suc (bytes_before stop (drop (i + 1) s))
  unfolding bytes_before
  before_next h e = rw (add-one i, drop-cons s i 0) (simp e)

  pub before_end : length s ≤ i → bytes_before stop (drop i s) ≡ 0
  unfolding bytes_before
  before_end h = rw (drop_of_length-le _ h)
