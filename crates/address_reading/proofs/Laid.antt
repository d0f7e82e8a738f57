-- The laws of the bytes that were taken into 16 zeros: those of a text without "::", and those of the two sides of "::".
-- Assumes nothing.
use mathlib.Core.Path.{◌≡◌, refl, sym, ap, ◌∙◌}
use mathlib.Core.List.{List, ◌∷◌, ◌++◌, append_assoc, append-nil}
use Prim.Native.Nat.{ℕ, zero, suc, ◌+◌, ◌-◌, ◌*◌, ◌≤◌}
use native.Mathlib.Omega.{arith}
use lib.ListN.{length, take, drop, replicate, length-append, length-replicate, replicate-append-replicate}
use lib.Seq.{take_at}
use lib.Dec.{eqb}
use borrow.Author.Tests.{eqb-true, eqb-false, eq-eqb, ne_eqb}
use Rattle.refusal.specs.Answer.{Answer, given, then_do}
use Rattle.refusal.specs.Output.{put, placing, placed}
use Rattle.laws.proofs.Tests.{by_test}
use Rattle.laws.proofs.Puts.{put_start, put_then}
use Rattle.laws.proofs.Emits.{placed_left}
use Rattle.address_forms.specs.Groups.{bytes_of}
use Rattle.address_forms.specs.AddressRead.{no_address, fields_of, whole, both_sides}
use Rattle.address_forms.proofs.Groups.{length_bytes, bytes_append}
use Rattle.address_reading.specs.Loops.{groups_in, Taken, of_eight}
use Rattle.address_reading.proofs.Counts.{counted, whole_not, whole_is, sides_are}

zeros_bytes : (k : ℕ) → bytes_of (replicate k 0) ≡ replicate (2 * k) 0
unfolding bytes_of
zeros_bytes zero = refl
zeros_bytes (suc k) =
    let two : 2 * suc k ≡ suc (suc (2 * k)) = omega arith in
    rw two (ap (λ (l : List ℕ). 0 ∷ 0 ∷ l) (zeros_bytes k))

drop_zeros : (n m : ℕ) → drop n (replicate {A = ℕ} m 0) ≡ replicate (m - n) 0
drop_zeros zero m = let all : m - 0 ≡ m = omega arith in rw all
drop_zeros (suc n) zero = let none : 0 - suc n ≡ 0 = omega arith in rw none
drop_zeros (suc n) (suc m) = let same : suc m - suc n ≡ m - n = omega arith in rw same (drop_zeros n m)

-- bytes at the start of 16 zeros
put_zeros : (bs : List ℕ) (n : ℕ) → length bs ≡ n → n ≤ 16 → put (replicate 16 0) 0 bs ≡ bs ++ replicate (16 - n) 0
put_zeros bs n e h = put_start (replicate 16 0) bs (omega arith) ∙ rw (e, drop_zeros n 16)

put_all : (bs : List ℕ) → length bs ≡ 16 → put (replicate 16 0) 0 bs ≡ bs
put_all bs e = put_zeros bs 16 e (omega arith) ∙ append-nil bs

-- zeros after them may be counted in
put_more : (bs : List ℕ) (n m : ℕ) → length bs ≡ 2 * n → n + m ≤ 8
    → put (replicate 16 0) 0 bs ≡ put (replicate 16 0) 0 (bs ++ bytes_of (replicate m 0))
put_more bs n m e h =
    let zs = bytes_of (replicate m 0) in
    let z : length zs ≡ 2 * m = length_bytes (replicate m 0) ∙ rw (length-replicate {A = ℕ} m 0) in
    let k : 2 * m + (16 - (2 * n + 2 * m)) ≡ 16 - 2 * n = omega arith in
    let is : replicate (16 - 2 * n) 0 ≡ zs ++ replicate (16 - (2 * n + 2 * m)) 0 =
    rw (zeros_bytes m, replicate-append-replicate {A = ℕ} (2 * m) (16 - (2 * n + 2 * m)) 0, k) in
    put_zeros bs (2 * n) e (omega arith) ∙ rw (is, ← append_assoc)
    (sym (put_zeros (bs ++ zs) (2 * n + 2 * m) (length-append bs zs ∙ omega arith) (omega arith)))

module _ (a : Answer (List ℕ)) (start left : List ℕ) (r : ℕ) (blank : start ≡ replicate 16 0) (taken : Taken a start left r) (few : r ≤ 8) where
  bytes_count : length (bytes_of (groups_in a)) ≡ 2 * r
  bytes_count = omega (arith, length_bytes (groups_in a), (counted a (omega (arith, taken.counts))).1, taken.counts)

  taken_zeros : left ≡ put (replicate 16 0) 0 (bytes_of (groups_in a))
  taken_zeros = rw blank at (taken.laid few)

  -- the bytes are the first
  taken_first : take (2 * r - 0) (drop 0 left) ≡ bytes_of (groups_in a)
  taken_first =
      let is : 2 * r - 0 ≡ 2 * r = omega arith in
      rw (is) (ap (take (2 * r)) (taken_zeros ∙ put_zeros (bytes_of (groups_in a)) (2 * r) bytes_count (omega arith))
      ∙ take_at (bytes_of (groups_in a)) (replicate (16 - 2 * r) 0) (2 * r) bytes_count)

  taken_more : (m : ℕ) → r + m ≤ 8 → left ≡ put (replicate 16 0) 0 (bytes_of (groups_in a) ++ bytes_of (replicate m 0))
  taken_more m h = taken_zeros ∙ put_more (bytes_of (groups_in a)) r m bytes_count h

pub whole_read : (t start left : List ℕ) (r : ℕ) → start ≡ replicate 16 0 → Taken (fields_of t) start left r
    → then_do (fields_of t) whole ≡ of_eight r left
unfolding of_eight
whole_read t start left r blank taken =
    by_test (eqb r 8)
    (λ e. let eight = eqb-true r 8 e in
    let n = bytes_count (fields_of t) start left r blank taken (omega arith) in
    let all = taken_zeros (fields_of t) start left r blank taken (omega arith) ∙ put_all (bytes_of (groups_in (fields_of t))) (omega arith) in
    whole_is t (omega (arith, taken.counts)) ∙ rw (e, all)) (λ e. whole_not t (λ z. eqb-false r 8 e (taken.counts ∙ z)) ∙ rw e)

module _ (a b : List ℕ) (start head tail : List ℕ) (l r : ℕ) (blank : start ≡ replicate 16 0) (left : Taken (fields_of a) start head l)
    (right : Taken (fields_of b) (replicate 16 0) tail r) (seven : l + r ≤ 7) where
  pub sides_read : (last : List ℕ) (at end : ℕ) → at ≡ 16 - 2 * r → length head ≡ 16
      → placing end last ≡ placed (take (2 * r - 0) (drop 0 tail)) at head → both_sides a b ≡ given last
  sides_read last at end place long told =
      let ls = groups_in (fields_of a) in
      let rs = groups_in (fields_of b) in
      let ms : List ℕ = replicate (8 - (l + r)) 0 in
      let n = bytes_count (fields_of a) start head l blank left (omega arith) in
      let m = bytes_count (fields_of b) (replicate 16 0) tail r refl right (omega arith) in
      let z : length (bytes_of ms) ≡ 2 * (8 - (l + r)) = length_bytes ms ∙ rw (length-replicate {A = ℕ} (8 - (l + r)) 0) in
      let k : length (bytes_of ls ++ bytes_of ms) ≡ at = length-append (bytes_of ls) (bytes_of ms) ∙ omega arith in
      let again : placing end last ≡ placed (bytes_of rs) at head =
      rw (taken_first (fields_of b) (replicate 16 0) tail r refl right (omega arith)) at told in
      let stored : last ≡ put head at (bytes_of rs) = placed_left (bytes_of rs) at head end last again (omega arith) in
      let first = taken_more (fields_of a) start head l blank left (omega arith) (8 - (l + r)) (omega arith) in
      let all : bytes_of (ls ++ (ms ++ rs)) ≡ (bytes_of ls ++ bytes_of ms) ++ bytes_of rs =
      bytes_append ls (ms ++ rs) ∙ ap (λ (x : List ℕ). bytes_of ls ++ x) (bytes_append ms rs) ∙ sym (append_assoc (bytes_of ls) (bytes_of ms) (bytes_of rs)) in
      let sixteen : length ((bytes_of ls ++ bytes_of ms) ++ bytes_of rs) ≡ 16 = length-append (bytes_of ls ++ bytes_of ms) (bytes_of rs) ∙ omega arith in
      let whole = put_all ((bytes_of ls ++ bytes_of ms) ++ bytes_of rs) sixteen in
      sides_are a b l r left.counts right.counts seven
      ∙ ap given
      (all ∙ sym (stored ∙ put_then (replicate 16 0) head 0 at (bytes_of ls ++ bytes_of ms) (bytes_of rs) first (omega arith) ∙ whole))

-- ---- what a call was told

module _ (a : Answer (List ℕ)) (count : ℕ) (bs : List ℕ) (told : a ≡ of_eight count bs) where
  pub read_given : count ≡ 8 → a ≡ given bs
  unfolding of_eight
  read_given e = told ∙ rw (eq-eqb count 8 e)

  pub read_none : (count ≡ 8 → ⊥) → a ≡ no_address
  unfolding of_eight
  read_none e = told ∙ rw (ne_eqb count 8 e)
