-- A number and its bytes, for every length k: what is written is read back, and what is read is written back.
-- Assumes nothing.
use mathlib.Core.Path.{◌≡◌, refl, sym, ap, ◌∙◌}
use mathlib.Core.List.{List, [], ◌∷◌, ◌++◌, append_assoc, append-nil}
use Prim.Native.Nat.{ℕ, zero, suc, ◌+◌, ◌*◌, ◌/◌, ◌%◌, ◌^◌, ◌<◌}
use native.Mathlib.Omega.{arith}
use native.Mathlib.Nat.{zero-add, add-zero, pow-suc, div-add-mod'}
use lib.ListN.{length, length-append}
use Rattle.refusal.specs.Every.{Bytes}
use Rattle.laws.proofs.Parts.{every_append}
use Rattle.wire_bytes.specs.Bytes.{bytes_of}
use Rattle.wire.specs.Be.{be_from, be}
use Rattle.wire.proofs.Bes.{bound_next}

be_last : (x : ℕ) (s : List ℕ) (b : ℕ) → be_from x (s ++ (b ∷ [])) ≡ be_from x s * 256 + b
unfolding be_from
be_last x [] b = refl
be_last x (c ∷ s) b = be_last (x * 256 + c) s b

pub be_bytes : (k x : ℕ) → x < 256 ^ k → be (bytes_of k x) ≡ x
unfolding be be_from bytes_of
be_bytes zero x h = omega arith
be_bytes (suc k) x h =
    let l : x < 256 ^ k * 256 = rw pow-suc at h in
    be_last 0 (bytes_of k (x / 256)) (x % 256) ∙ rw (be_bytes k (x / 256) (omega arith)) (div-add-mod' x 256)

bytes_last : (k x b : ℕ) → b < 256 → bytes_of (suc k) (x * 256 + b) ≡ bytes_of k x ++ (b ∷ [])
unfolding bytes_of
bytes_last k x b h =
    let upper : (x * 256 + b) / 256 ≡ x = omega arith in
    let lower : (x * 256 + b) % 256 ≡ b = omega arith in
    rw (upper, lower)

-- the bytes of x, and s after them
bytes_from : (k x : ℕ) (s : List ℕ) → Bytes s → bytes_of (k + length s) (be_from x s) ≡ bytes_of k x ++ s
unfolding be_from
bytes_from k x [] h = rw (add-zero, append-nil)
bytes_from k x (b ∷ s) h =
    let n : k + suc (length s) ≡ suc k + length s = omega arith in
    rw n (bytes_from (suc k) (x * 256 + b) s h.1 ∙ rw (bytes_last k x b h.0) (append_assoc (bytes_of k x) (b ∷ []) s))

pub bytes_be : (s : List ℕ) → Bytes s → bytes_of (length s) (be s) ≡ s
unfolding be bytes_of
bytes_be s h = rw (← zero-add (length s)) (bytes_from 0 0 s h)

pub length_bytes : (k x : ℕ) → length (bytes_of k x) ≡ k
unfolding bytes_of
length_bytes zero x = refl
length_bytes (suc k) x = length-append (bytes_of k (x / 256)) (x % 256 ∷ []) ∙ rw (length_bytes k (x / 256)) (omega arith)

pub bytes_small : (k x : ℕ) → Bytes (bytes_of k x)
unfolding bytes_of
bytes_small zero x = tt
bytes_small (suc k) x = every_append _ (bytes_of k (x / 256)) (x % 256 ∷ []) (bytes_small k (x / 256)) (omega arith, tt)

-- as many bytes as there are
pub bytes_read : (k : ℕ) (s : List ℕ) → length s ≡ k → Bytes s → bytes_of k (be s) ≡ s
bytes_read k s l h = ap (λ (n : ℕ). bytes_of n (be s)) (sym l) ∙ bytes_be s h

-- a number is as wide as its bytes
be_below : (s : List ℕ) (i x : ℕ) → Bytes s → x < 256 ^ i → be_from x s < 256 ^ (i + length s)
unfolding be_from
be_below [] i x b h = let z : i ≡ i + 0 = omega arith in rw (← z) h
be_below (c ∷ s) i x b h =
    let z : i + 1 + length s ≡ i + suc (length s) = omega arith in
    rw (← z) (be_below s (i + 1) (x * 256 + c) b.1 (bound_next i x c h b.0))

pub be_small : (k : ℕ) (s : List ℕ) → length s ≡ k → Bytes s → be s < 256 ^ k
unfolding be
be_small k s l b = rw (← l) (simp zero-add at (be_below s 0 0 b (omega arith)))
