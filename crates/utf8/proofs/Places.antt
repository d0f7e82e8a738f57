-- UTF-8 from a place on, by the tests that the code makes there.
-- Assumes nothing.
use mathlib.Core.Path.{◌≡◌, refl, sym, ◌∙◌}
use mathlib.Core.Bool.{Bool, true, false, ◌&&◌, and_assoc, and-eq-true_iff}
use mathlib.Core.List.{List, [], ◌∷◌}
use Prim.Native.Nat.{ℕ, suc, ◌+◌, ◌≤◌, ◌<◌}
use native.Mathlib.Omega.{arith}
use native.Mathlib.Nat.{add_assoc}
use native.Mathlib.Numerals.{add-one}
use lib.Dec.{leb, ltb}
use lib.ListN.{length, drop, get_or, drop_of_length-le}
use lib.Seq.{drop-cons}
use borrow.Author.Tests.{ltb-true, ltb-false, le-leb, leb-true}
use Rattle.laws.proofs.Tests.{by_test}
use Rattle.utf8.specs.Utf8.{between, one, octets, class_of}
use Rattle.utf8.specs.Chars.{all_one, within_at, two_at, three_at, four_at, FirstAt, CharAt}
use Rattle.utf8.proofs.Firsts.{next, after, first_byte}

pub by_class : {s : List ℕ} {at k : ℕ} → FirstAt s at k → (j : ℕ) → k ≡ j → octets (drop at s) ≡ after j (drop (at + 1) s)
by_class {s} {at} f j e = rw (sym e, f.class, add-one, drop-cons s at 0 f.inside) (first_byte (get_or s at 0) (drop (suc at) s) f.byte)

next_at : (low high : ℕ) (f : List ℕ → Bool) (s : List ℕ) (at : ℕ) → next low high f (drop at s) ≡ within_at low high s at && f (drop (at + 1) s)
unfolding next within_at
next_at low high f s at =
    by_test (ltb at (length s))
    (λ e. let h : at < length s = ltb-true _ _ e in rw (e, add-one, drop-cons s at 0))
    (λ e. let h : length s ≤ at = ltb-false _ _ e in rw (e, drop_of_length-le s h))

within_inside : (low high : ℕ) (s : List ℕ) (at : ℕ) → within_at low high s at ≡ true → at < length s
unfolding within_at
within_inside low high s at t = ltb-true at (length s) ((and-eq-true_iff (ltb at (length s)) (between low high (get_or s at 0))).0 t).0

-- ---- the character at a place, by its class

module _ (s : List ℕ) (at : ℕ) where
  pub one_char : at < length s → octets (drop at s) ≡ octets (drop (at + 1) s) → CharAt s at 1
  one_char h o = record { inside = omega arith; goes_on = o }

  pub no_char : at < length s → octets (drop at s) ≡ false → CharAt s at 0
  no_char h o = record { inside = omega arith; goes_on = o }

  pub two_char : (n : ℕ) → n ≡ two_at s at → at < length s → octets (drop at s) ≡ next 128 191 octets (drop (at + 1) s) → CharAt s at n
  unfolding two_at
  two_char n e h o =
      by_test (within_at 128 191 s (at + 1))
      (λ y. rw (e, y) (record { inside = omega (arith, within_inside _ _ _ _ y); goes_on = o ∙ simp (next_at, add_assoc, y) }))
      (λ y. rw (e, y) (no_char h (o ∙ simp (next_at, y))))

  module _ (low high : ℕ) where
    pub three_char : (n : ℕ) → n ≡ three_at low high s at → at < length s
        → octets (drop at s) ≡ next low high (next 128 191 octets) (drop (at + 1) s) → CharAt s at n
    unfolding three_at
    three_char n e h o =
        by_test (within_at low high s (at + 1))
        (λ y. by_test (within_at 128 191 s (at + 2))
        (λ z. rw (e, y, z) (record { inside = omega (arith, within_inside _ _ _ _ z); goes_on = o ∙ simp (next_at, add_assoc, y, z) }))
        (λ z. rw (e, y, z) (no_char h (o ∙ simp (next_at, add_assoc, y, z)))))
        (λ y. rw (e, y) (no_char h (o ∙ simp (next_at, y))))

    pub four_char : (n : ℕ) → n ≡ four_at low high s at → at < length s
        → octets (drop at s) ≡ next low high (next 128 191 (next 128 191 octets)) (drop (at + 1) s) → CharAt s at n
    unfolding four_at
    four_char n e h o =
        by_test (within_at low high s (at + 1))
        (λ y. by_test (within_at 128 191 s (at + 2))
        (λ z. by_test (within_at 128 191 s (at + 3))
        (λ w. rw (e, y, z, w) (record { inside = omega (arith, within_inside _ _ _ _ w); goes_on = o ∙ simp (next_at, add_assoc, y, z, w) }))
        (λ w. rw (e, y, z, w) (no_char h (o ∙ simp (next_at, add_assoc, y, z, w)))))
        (λ z. rw (e, y, z) (no_char h (o ∙ simp (next_at, add_assoc, y, z)))))
        (λ y. rw (e, y) (no_char h (o ∙ simp (next_at, y))))

-- ASCII is UTF-8
pub ascii_all : (s : List ℕ) → all_one s ≡ true → octets s ≡ true
unfolding all_one one octets after class_of
ascii_all [] all = refl
ascii_all (b ∷ bs) all =
    let parts = (and-eq-true_iff (leb b 127) (all_one bs)).0 all in
    let low : b ≤ 127 = leb-true b 127 parts.0 in
    by_class {s = b ∷ bs} {at = 0} {k = 1} (record { inside = omega arith; byte = omega arith; class = simp (le-leb b 127 low) }) 1 refl ∙ ascii_all bs parts.1

pub one_next : (s : List ℕ) (i : ℕ) (good : Bool) → i < length s
    → (good && leb (get_or s i 0) 127 && all_one (drop (i + 1) s)) ≡ (good && all_one (drop i s))
unfolding all_one one
one_next s i good h = rw (add-one i, drop-cons s i 0) (and_assoc good (leb (get_or s i 0) 127) (all_one (drop (suc i) s)))

pub one_end : (s : List ℕ) (i : ℕ) → length s ≤ i → all_one (drop i s) ≡ true
unfolding all_one
one_end s i h = rw (drop_of_length-le s h)

pub at_end : (s : List ℕ) (at : ℕ) → length s ≤ at → true ≡ octets (drop at s)
unfolding octets
at_end s at h = rw (drop_of_length-le s h)
