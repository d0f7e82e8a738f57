-- The laws of the count: what it says of the groups, and how each kind of text is answered by it.
-- Assumes nothing.
use mathlib.Core.Path.{◌≡◌, refl, ap, ◌∙◌}
use mathlib.Core.List.{List, [], ◌∷◌, ◌++◌}
use Prim.Native.Nat.{ℕ, ◌+◌, ◌-◌, ◌≤◌, ◌<◌}
use native.Mathlib.Omega.{arith}
use lib.ListN.{length, take, drop, replicate, length-drop}
use lib.Seq.{take_all}
use lib.Dec.{leb}
use borrow.Author.Tests.{leb-true, leb-false, eq-eqb, ne_eqb, le-leb, lt-leb}
use Rattle.refusal.specs.Answer.{Answer, given, absent, refused, then_do}
use Rattle.laws.proofs.Tests.{by_test}
use Rattle.address_forms.specs.Groups.{bytes_of}
use Rattle.address_forms.specs.AddressRead.{no_address, good_from, values_from, fields_of, gap_of, whole, filled, both_sides, text_address}
use Rattle.address_reading.specs.Loops.{groups_in, count_in}

-- ---- the count of groups that are given

module _ (gs : List ℕ) where
  pub count_few : length gs ≤ 8 → count_in (given gs) ≡ length gs
  unfolding count_in
  count_few h = rw (le-leb (length gs) 8 h)

  pub count_many : 8 < length gs → count_in (given gs) ≡ 9
  unfolding count_in
  count_many h = rw (lt-leb (length gs) 8 h)

  count_most : count_in (given gs) ≤ length gs
  count_most =
      by_test (leb (length gs) 8) (λ e. omega (arith, count_few (leb-true (length gs) 8 e)))
      (λ e. let many = leb-false (length gs) 8 e in omega (arith, count_many many))

-- a count of at most 8 is of groups that are there
pub counted : (a : Answer (List ℕ)) → count_in a ≤ 8 → (a ≡ given (groups_in a)) × (length (groups_in a) ≡ count_in a)
unfolding count_in groups_in
counted (given gs) h =
    by_test (leb (length gs) 8) (λ e. (refl, rw e)) (λ e. absurd (omega (arith, count_many gs (leb-false (length gs) 8 e))))
counted absent h = absurd (omega arith)
counted (refused n p i) h = absurd (omega arith)

-- ---- what is answered

-- an answer's groups are given, or it is a refusal by 16
data Fields (a : Answer (List ℕ)) : Type 0 where
  there : (gs : List ℕ) → a ≡ given gs → Fields a
  none : a ≡ no_address → Fields a

fields_either : (t : List ℕ) → Fields (fields_of t)
unfolding fields_of
fields_either [] = there [] refl
fields_either (c ∷ cs) = by_test (good_from 0 (c ∷ cs)) (λ g. there (values_from 0 (c ∷ cs)) (rw g)) (λ g. none (rw g))

not_whole : (a : Answer (List ℕ)) → Fields a → (count_in a ≡ 8 → ⊥) → then_do a whole ≡ no_address
unfolding whole
not_whole a (there gs e) h =
    rw e (rw (ne_eqb (length gs) 8 (λ z. h (rw e (count_few gs (omega arith) ∙ z)))))
not_whole a (none e) h = rw e

module _ (t : List ℕ) where
  pub whole_not : (count_in (fields_of t) ≡ 8 → ⊥) → then_do (fields_of t) whole ≡ no_address
  whole_not h = not_whole (fields_of t) (fields_either t) h

  pub whole_is : count_in (fields_of t) ≡ 8 → then_do (fields_of t) whole ≡ given (bytes_of (groups_in (fields_of t)))
  unfolding whole
  whole_is h =
      let p = counted (fields_of t) (omega arith) in
      let eight : length (groups_in (fields_of t)) ≡ 8 = omega (arith, p.1) in
      ap (λ (a : Answer (List ℕ)). then_do a whole) p.0 ∙ rw (eq-eqb (length (groups_in (fields_of t))) 8 eight)

not_filled : (a b : Answer (List ℕ)) → Fields a → Fields b → 7 < count_in a + count_in b
    → then_do a (λ ls. then_do b (λ rs. filled ls rs)) ≡ no_address
unfolding filled
not_filled a b (there ls e) (there rs f) h =
    let more : 7 < count_in (given ls) + count_in (given rs) = rw (e, f) at h in
    rw (e, f) (rw (lt-leb (length ls + length rs) 7 (omega (arith, count_most ls, count_most rs))))
not_filled a b (there ls e) (none f) h = rw (e, f)
not_filled a b (none e) g h = rw e

module _ (left right : List ℕ) where
  pub sides_not : 7 < count_in (fields_of left) + count_in (fields_of right) → both_sides left right ≡ no_address
  unfolding both_sides
  sides_not h = not_filled (fields_of left) (fields_of right) (fields_either left) (fields_either right) h

  module _ (l r : ℕ) (a : l ≡ count_in (fields_of left)) (b : r ≡ count_in (fields_of right)) (seven : l + r ≤ 7) where
    pub sides_are : both_sides left right
        ≡ given (bytes_of (groups_in (fields_of left) ++ (replicate (8 - (l + r)) 0 ++ groups_in (fields_of right))))
    unfolding both_sides filled
    sides_are =
        let p = counted (fields_of left) (omega arith) in
        let q = counted (fields_of right) (omega arith) in
        let m : length (groups_in (fields_of left)) ≡ l = omega (arith, p.1) in
        let n : length (groups_in (fields_of right)) ≡ r = omega (arith, q.1) in
        ap (λ (x : Answer (List ℕ)). then_do x (λ xs. then_do (fields_of right) (λ ys. filled xs ys))) p.0
        ∙ ap (λ (x : Answer (List ℕ)). then_do x (λ ys. filled (groups_in (fields_of left)) ys)) q.0 ∙ rw (m, n, le-leb (l + r) 7 seven)

module _ (t : List ℕ) (gap : ℕ) (found : gap ≡ gap_of t) where
  pub address_whole : gap ≡ length t → text_address t ≡ then_do (fields_of t) whole
  unfolding text_address
  address_whole h = rw (← found) (rw (eq-eqb gap (length t) h))

  pub address_around : (gap ≡ length t → ⊥)
      → text_address t ≡ both_sides (take (gap - 0) (drop 0 t)) (take (length t - (gap + 2)) (drop (gap + 2) t))
  unfolding text_address
  address_around h =
      let none : gap - 0 ≡ gap = omega arith in
      rw (← found) (rw (ne_eqb gap (length t) h, none, take_all (length t - (gap + 2)) (drop (gap + 2) t) (rw length-drop (omega arith))))
