-- What the code finds at a place is what stands first in the bytes from there on: the agreement of the two definitions.
-- Assumes nothing.
use mathlib.Core.Path.{◌≡◌, refl, sym, ap, ◌∙◌}
use mathlib.Core.List.{List, [], ◌∷◌}
use Prim.Native.Nat.{ℕ, suc, ◌+◌, ◌-◌, ◌/◌, ◌≤◌, ◌<◌}
use native.Mathlib.Omega.{arith}
use native.Mathlib.Nat.{add-zero}
use lib.ListN.{length, get_or, take, drop}
use lib.Seq.{get_or-drop, get_or-take, length-take-le, drop-cons, take-take}
use lib.Dec.{leb, ltb}
use borrow.Author.Tests.{le-leb, lt-leb, lt-ltb, le-ltb, leb-true, leb-false, ltb-false}
use Rattle.std.specs.Prelude.{Option, Some, None}
use Rattle.refusal.specs.Answer.{Answer, given, absent, refused}
use Rattle.refusal.proofs.Papers.{Tells, tells}
use Rattle.laws.proofs.Tests.{by_test}
use Rattle.laws.proofs.Parts.{length_part}
use Rattle.network_framing.specs.Tlvs.{first, opening, opened, bytes_for, domain_of, bits_of, bytes_of, Piece}
use Rattle.network_framing.specs.Frame.{part, sub_of, sub_in, inner_of, head_at, sub_answer, head_answer}
use Rattle.network_framing.specs.Place.{sub_place, head_place}
use Rattle.network_framing.specs.declared.SubTlv.{SubTlv}
use Rattle.network_framing.specs.declared.SubTlv.TheVariants.{Item, Cut, End}

-- the meanings tell the code's answers apart
abbrev sub_from : Answer Piece → SubTlv
sub_from (given e) = Item e.ty e.start e.len
sub_from absent = End
sub_from (refused n p i) = Cut

pub sub_tells : Tells sub_answer
sub_tells = tells sub_answer sub_from (elim [ Item t a n ↦ refl | Cut ↦ refl | End ↦ refl ])

abbrev head_from : Answer ℕ → Option ℕ
head_from (given at) = Some at
head_from absent = None
head_from (refused n p i) = None

pub head_tells : Tells head_answer
head_tells = tells head_answer head_from (elim [ Some at ↦ refl | None ↦ refl ])

-- a part that is all there, byte by byte
module _ (s : List ℕ) (at end : ℕ) (less : at < end) (room : end ≤ length s) where
  pub size_is : (d : List ℕ) → part s at end ≡ d → length d ≡ end - at
  size_is d e = ap length (sym e) ∙ length_part s at (end - at) (omega arith)

  pub byte_is : (d : List ℕ) (k : ℕ) → k < end - at → part s at end ≡ d → get_or s (at + k) 0 ≡ get_or d k 0
  byte_is d k l e = sym (get_or-take (end - at) (drop at s) k 0 l ∙ get_or-drop at s k 0) ∙ ap (λ (x : List ℕ). get_or x k 0) e

  pub first_is : (d : List ℕ) → part s at end ≡ d → 0 < end - at → get_or s at 0 ≡ get_or d 0 0
  first_is d e l = ap (λ (k : ℕ). get_or s k 0) (sym (add-zero at)) ∙ byte_is d 0 l e

  sub_by : (d : List ℕ) → part s at end ≡ d → sub_answer (sub_place s at end) ≡ sub_of at (first d)
  unfolding sub_place sub_of first
  sub_by [] e = absurd (let n = size_is [] e in omega arith)
  sub_by (t ∷ []) e =
      let n = size_is (t ∷ []) e in
      simp (lt-leb _ _ less, le-ltb _ _ room, lt-ltb (end - at) 2 (omega arith))
  sub_by (t ∷ l ∷ r) e =
      let d = t ∷ l ∷ r in
      let n = size_is d e in
      let k : end - (at + 2) ≡ length r = omega arith in
      by_test (leb l (length r))
      (λ h. let m = length-take-le l r (leb-true l (length r) h) in
      simp (lt-leb _ _ less, le-ltb _ _ room, le-ltb (end - at) 2 (omega arith), byte_is d 1 (omega arith) e, first_is d e (omega arith), k, h, m))
      (λ h. simp (lt-leb _ _ less, le-ltb _ _ room, le-ltb (end - at) 2 (omega arith), byte_is d 1 (omega arith) e, k, h))

  head_by : (d : List ℕ) → part s at end ≡ d → head_answer (head_place s at end) ≡ inner_of at (opened d)
  unfolding head_place inner_of opened
  head_by [] e = absurd (let n = size_is [] e in omega arith)
  head_by (t ∷ []) e =
      let n = size_is (t ∷ []) e in
      simp (lt-leb _ _ less, le-ltb _ _ room, lt-ltb (end - at) 2 (omega arith))
  head_by (t ∷ l ∷ r) e =
      let d = t ∷ l ∷ r in
      let n = size_is d e in
      by_test (leb (bytes_for l) (length r))
      (λ h. let m = length-take-le (bytes_for l) r (leb-true (bytes_for l) (length r) h) in
      let k : 2 + bytes_for l ≤ end - at = omega (arith, leb-true (bytes_for l) (length r) h) in
      simp (lt-leb _ _ less, le-ltb _ _ room, le-ltb (end - at) 2 (omega arith), byte_is d 1 (omega arith) e, le-ltb _ _ k, h, m))
      (λ h. let k : end - at < 2 + bytes_for l = omega (arith, leb-false (bytes_for l) (length r) h) in
      simp (lt-leb _ _ less, le-ltb _ _ room, le-ltb (end - at) 2 (omega arith), byte_is d 1 (omega arith) e, lt-ltb _ _ k, h))

-- THE AGREEMENT of the two definitions
pub sub_agrees : (s : List ℕ) (at end : ℕ) → sub_answer (sub_place s at end) ≡ sub_in s at end
unfolding sub_place sub_in
sub_agrees s at end =
    by_test (leb end at) (λ a. simp a)
    (λ a. by_test (ltb (length s) end) (λ b. simp (a, b))
    (λ b. simp (a, b) (simp (a, b) at (sub_by s at end (leb-false _ _ a) (ltb-false _ _ b) (part s at end) refl))))

pub head_agrees : (s : List ℕ) (start end : ℕ) → head_answer (head_place s start end) ≡ head_at s start end
unfolding head_place head_at
head_agrees s start end =
    by_test (leb end start) (λ a. simp a)
    (λ a. by_test (ltb (length s) end) (λ b. simp (a, b))
    (λ b. simp (a, b) (simp (a, b) at (head_by s start end (leb-false _ _ a) (ltb-false _ _ b) (part s start end) refl))))

-- a prefix whose own bytes are all there, by places
module _ (s : List ℕ) (start end : ℕ) (whole : start + (2 + bytes_for (get_or s (start + 1) 0)) ≤ end) (room : end ≤ length s) where
  begins : part s start end ≡ get_or s start 0 ∷ get_or s (start + 1) 0 ∷ take (end - (start + 2)) (drop (start + 2) s)
  begins =
      let n = end - (start + 2) in
      let m : end - start ≡ suc (suc n) = omega arith in
      let one : suc start ≡ start + 1 = omega arith in
      let two : suc (start + 1) ≡ start + 2 = omega arith in
      let a = drop-cons s start 0 (omega arith) ∙ ap (λ (k : ℕ). get_or s start 0 ∷ drop k s) one in
      let b = drop-cons s (start + 1) 0 (omega arith) ∙ ap (λ (k : ℕ). get_or s (start + 1) 0 ∷ drop k s) two in
      ap (λ (k : ℕ). take k (drop start s)) m ∙ ap (take (suc (suc n))) (a ∙ ap (λ (r : List ℕ). get_or s start 0 ∷ r) b)

  opens : opened (part s start end)
      ≡ opening (get_or s start 0) (get_or s (start + 1) 0) (take (bytes_for (get_or s (start + 1) 0)) (drop (start + 2) s))
      (drop (bytes_for (get_or s (start + 1) 0)) (take (end - (start + 2)) (drop (start + 2) s)))
  unfolding opened
  opens =
      let b = bytes_for (get_or s (start + 1) 0) in
      let size = length_part s (start + 2) (end - (start + 2)) (omega arith) in
      rw (begins, size, le-leb b (end - (start + 2)) (omega arith), take-take b (end - (start + 2)) (drop (start + 2) s) (omega arith))

  pub domain_is : domain_of (opened (part s start end)) ≡ get_or s start 0
  unfolding domain_of
  domain_is = ap domain_of opens

  pub bits_are : bits_of (opened (part s start end)) ≡ get_or s (start + 1) 0
  unfolding bits_of
  bits_are = ap bits_of opens

  pub bytes_are : bytes_of (opened (part s start end)) ≡ take (bytes_for (get_or s (start + 1) 0)) (drop (start + 2) s)
  unfolding bytes_of
  bytes_are = ap bytes_of opens

-- what is so by places is so by the definition
pub sub_is : (s : List ℕ) (at end : ℕ) (r : SubTlv) → r ≡ sub_place s at end → sub_answer r ≡ sub_in s at end
sub_is s at end r e = ap sub_answer e ∙ sub_agrees s at end

pub head_is : (s : List ℕ) (start end : ℕ) (r : Option ℕ) → r ≡ head_place s start end → head_answer r ≡ head_at s start end
head_is s start end r e = ap head_answer e ∙ head_agrees s start end

-- the same for numbers that are equal to those of the definition, however the code comes by them
module _ (s : List ℕ) (at end : ℕ) (less : at < end) (room : end ≤ length s) (two : 2 ≤ end - at) where
  module _ (n : ℕ) (long : n ≡ get_or s (at + 1) 0) where
    pub sub_item : (t a : ℕ) → t ≡ get_or s at 0 / 2 → a ≡ at + 2 → n ≤ end - (at + 2) → sub_answer (Item t a n) ≡ sub_in s at end
    unfolding sub_place
    sub_item t a ty start fits =
        sub_is s at end (Item t a n)
        (rw (ty, start, long) (simp (lt-leb _ _ less, le-ltb _ _ room, le-ltb _ _ two, le-leb _ _ (rw long at fits))))

    pub sub_cut : end - (at + 2) < n → sub_answer Cut ≡ sub_in s at end
    unfolding sub_place
    sub_cut over = sub_is s at end Cut (simp (lt-leb _ _ less, le-ltb _ _ room, le-ltb _ _ two, lt-leb _ _ (rw long at over)))

  module _ (n : ℕ) (own : n ≡ 2 + bytes_for (get_or s (at + 1) 0)) where
    pub head_inner : (a : ℕ) → a ≡ at + n → n ≤ end - at → head_answer (Some a) ≡ head_at s at end
    unfolding head_place
    head_inner a start fits =
        head_is s at end (Some a) (rw (start, own) (simp (lt-leb _ _ less, le-ltb _ _ room, le-ltb _ _ two, le-ltb _ _ (rw own at fits))))

    pub head_short : end - at < n → head_answer None ≡ head_at s at end
    unfolding head_place
    head_short over = head_is s at end None (simp (lt-leb _ _ less, le-ltb _ _ room, le-ltb _ _ two, lt-ltb _ _ (rw own at over)))
