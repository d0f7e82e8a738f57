-- The laws of `put`, for every writer: nothing more to store, one byte, one run after another, and a run at the start.
-- Assumes nothing.
use mathlib.Core.Path.{◌≡◌, refl, sym, ap, ◌∙◌}
use mathlib.Core.List.{List, [], ◌∷◌, ◌++◌}
use Prim.Native.Nat.{ℕ, suc, ◌+◌, ◌≤◌, ◌<◌}
use native.Mathlib.Omega.{arith}
use native.Mathlib.Nat.{add-zero, zero-add}
use native.Mathlib.Numerals.{add-one}
use lib.ListN.{length, drop, set, get_or}
use lib.Seq.{sets, sets-eq, length-sets, drop-cons}
use Rattle.refusal.specs.Output.{put}

put_sets : (bs out : List ℕ) (at : ℕ) → put out at bs ≡ sets out at bs
unfolding put
put_sets [] out at = refl
put_sets (b ∷ bs) out at = put_sets bs (set out at b) (suc at)

pub put_none : (out : List ℕ) (at : ℕ) → put out at [] ≡ out
unfolding put
put_none out at = refl

pub put_byte : (out : List ℕ) (at b : ℕ) (bs : List ℕ) → put out at (b ∷ bs) ≡ put (set out at b) (at + 1) bs
unfolding put
put_byte out at b bs = rw add-one

pub put_length : (out : List ℕ) (at : ℕ) (bs : List ℕ) → length (put out at bs) ≡ length out
put_length out at bs = ap length (put_sets bs out at) ∙ length-sets out at bs

-- xs, and then ys after them, is xs ++ ys
pub put_put : (xs : List ℕ) (out : List ℕ) (at : ℕ) (ys : List ℕ) → put (put out at xs) (at + length xs) ys ≡ put out at (xs ++ ys)
unfolding put
put_put [] out at ys = rw add-zero
put_put (x ∷ xs) out at ys =
    let k : at + suc (length xs) ≡ suc at + length xs = omega arith in
    rw k (put_put xs (set out at x) (suc at) ys)

pub put_start : (out bs : List ℕ) → length bs ≤ length out → put out 0 bs ≡ bs ++ drop (length bs) out
put_start out bs h =
    put_sets bs out 0 ∙ sets-eq bs out 0 (omega arith) ∙ ap (λ (k : ℕ). bs ++ drop k out) (zero-add (length bs))

-- a turn of a loop that copies
pub put_next : (src dst : List ℕ) (at i : ℕ) → i < length src
    → put (set dst (at + i) (get_or src i 0)) (at + (i + 1)) (drop (i + 1) src) ≡ put dst (at + i) (drop i src)
put_next src dst at i h =
    let k : at + (i + 1) ≡ at + i + 1 = omega arith in
    rw (k, add-one i, drop-cons src i 0) (sym (put_byte dst (at + i) (get_or src i 0) (drop (suc i) src)))

-- a run was stored, and ys is still to be
pub put_then : (out left : List ℕ) (at next : ℕ) (xs ys : List ℕ) → left ≡ put out at xs → next ≡ at + length xs → put left next ys ≡ put out at (xs ++ ys)
put_then out left at next xs ys l k = rw (l, k) (put_put xs out at ys)

-- a byte that is stored by itself
pub put_one : (out : List ℕ) (at b : ℕ) → put out at (b ∷ []) ≡ set out at b
put_one out at b = put_byte out at b [] ∙ put_none (set out at b) (at + 1)

-- a run was stored, and then b after it
pub put_last : (out left : List ℕ) (at next : ℕ) (xs : List ℕ) (b : ℕ) → left ≡ put out at xs → next ≡ at + length xs
    → set left next b ≡ put out at (xs ++ (b ∷ []))
put_last out left at next xs b l k = sym (put_one left next b) ∙ put_then out left at next xs (b ∷ []) l k
