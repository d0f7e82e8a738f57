-- The first n rows of a table, of which i are done: those that are left.
-- Assumes nothing.
use mathlib.Core.Path.{◌≡◌}
use mathlib.Core.List.{List, [], ◌∷◌}
use Prim.Native.Nat.{ℕ, suc, ◌+◌, ◌-◌, ◌≤◌, ◌<◌}
use native.Mathlib.Omega.{arith}
use native.Mathlib.Numerals.{add-one}
use lib.ListN.{length, get_or, take, drop}
use lib.Seq.{drop-cons}

module _ {A : Type 0} where
  unfoldable pub left : List A → (n i : ℕ) → List A
  left xs n i = take (n - i) (drop i xs)

  module _ (xs : List A) (n : ℕ) where
    pub left_start : left xs n 0 ≡ take n xs
    unfolding left
    left_start = let a : n - 0 ≡ n = omega arith in rw a

    pub left_end : (i : ℕ) → n ≤ i → left xs n i ≡ []
    unfolding left
    left_end i h = let a : n - i ≡ 0 = omega arith in rw a

    pub left_more : (d : A) (i : ℕ) → i < n → n ≤ length xs → left xs n i ≡ get_or xs i d ∷ left xs n (i + 1)
    unfolding left
    left_more d i h k =
        let a : n - i ≡ suc (n - (i + 1)) = omega arith in
        rw (a, add-one i, drop-cons xs i d (omega arith))
