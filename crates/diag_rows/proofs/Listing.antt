-- One row of a list by its number, of a list that is made by a function, as child rows and addresses are.
-- Assumes nothing.
use mathlib.Core.Path.{◌≡◌, refl, sym, ap, ◌∙◌}
use mathlib.Core.List.{List}
use Prim.Native.Nat.{ℕ, zero, suc, ◌+◌, ◌*◌, ◌/◌, ◌≤◌, ◌<◌}
use native.Mathlib.Omega.{arith}
use lib.ListN.{length, take, drop}
use lib.Dec.{ltb}
use borrow.Author.Tests.{ltb-true, ltb-false}
use Rattle.laws.proofs.Tests.{by_test}
use Rattle.refusal.specs.Answer.{Answer, given, absent, on_given, then_do}
use Rattle.refusal.specs.Numbered.{nth}
use Rattle.diag_rows.specs.Rows.{listed, child_at, child_rows, addresses, part, address_parts, or_empty}
use Rattle.diag_rows.specs.declared.Part.{Part}
use Rattle.diag_rules.specs.Rule.{value_of}
use Rattle.diag_rows.specs.declared.ChildTableEntry.{ChildTableEntry}
use Rattle.diag_rules.proofs.Kept.{value_cases}

nth_in : {A : Type 0} (f : ℕ → A) (n k : ℕ) → k < n → nth (listed f n) k ≡ given (f k)
unfolding listed nth
nth_in f zero k h = absurd (omega arith)
nth_in f (suc n) zero h = refl
nth_in f (suc n) (suc k) h = nth_in (λ j. f (suc j)) n k (omega arith)

nth_out : {A : Type 0} (f : ℕ → A) (n k : ℕ) → n ≤ k → nth (listed f n) k ≡ absent
unfolding listed nth
nth_out f zero k h = refl
nth_out f (suc n) zero h = absurd (omega arith)
nth_out f (suc n) (suc k) h = nth_out (λ j. f (suc j)) n k (omega arith)

-- ---- rows of a child table, and parts that are addresses

module _ (v : List ℕ) (k : ℕ) where
  pub child_out : length v / 3 ≤ k → absent ≡ nth (child_rows v) k
  unfolding child_rows
  child_out h = sym (nth_out (λ j. child_at v (j * 3)) (length v / 3) k h)

  pub child_in : (x : ChildTableEntry) → k < length v / 3 → x ≡ child_at v (k * 3) → given x ≡ nth (child_rows v) k
  unfolding child_rows
  child_in x h e = ap given e ∙ sym (nth_in (λ j. child_at v (j * 3)) (length v / 3) k h)

  pub part_out : length v / 16 ≤ k → absent ≡ nth (address_parts v) k
  unfolding address_parts
  part_out h = sym (nth_out (λ j. part (j * 16) 16) (length v / 16) k h)

  pub part_in : (a n : ℕ) → a ≡ k * 16 → n ≡ 16 → k < length v / 16 → given (part a n) ≡ nth (address_parts v) k
  unfolding address_parts
  part_in a n e m h = rw (e, m) (sym (nth_in (λ j. part (j * 16) 16) (length v / 16) k h))

-- ---- an address is what its part holds

abbrev bytes_of : List ℕ → Part → List ℕ
bytes_of v p = take p.len (drop p.start v)

module _ (v : List ℕ) (k : ℕ) where
  nth_bytes : nth (addresses v) k ≡ on_given (bytes_of v) (nth (address_parts v) k)
  unfolding addresses address_parts
  nth_bytes =
      by_test (ltb k (length v / 16))
      (λ t. let h = ltb-true _ _ t in
      nth_in (λ j. take 16 (drop (j * 16) v)) (length v / 16) k h ∙ ap (on_given (bytes_of v)) (sym (nth_in (λ j. part (j * 16) 16) (length v / 16) k h)))
      (λ t. let h = ltb-false _ _ t in
      nth_out (λ j. take 16 (drop (j * 16) v)) (length v / 16) k h ∙ ap (on_given (bytes_of v)) (sym (nth_out (λ j. part (j * 16) 16) (length v / 16) k h)))

  nth_inside : (a n : ℕ) → given (part a n) ≡ nth (address_parts v) k → a + n ≤ length v
  unfolding address_parts
  nth_inside a n e =
      by_test (ltb k (length v / 16))
      (λ t. let h = ltb-true _ _ t in
      let same = e ∙ nth_in (λ j. part (j * 16) 16) (length v / 16) k h in
      let parts : part a n ≡ part (k * 16) 16 = cc in
      let start = ap (λ (p : Part). p.start) parts in
      let len = ap (λ (p : Part). p.len) parts in
      omega arith)
      (λ t. let none = e ∙ nth_out (λ j. part (j * 16) 16) (length v / 16) k (ltb-false _ _ t) in
      absurd (let z : ◌≡◌ {A = ℕ} 0 1 = cc in omega arith))

  abbrev Address : Answer (List ℕ) → Answer (List ℕ)
  Address a = then_do a (λ (w : List ℕ). nth (addresses w) k)

  abbrev Spot : Answer (List ℕ) → Answer Part
  Spot a = then_do a (λ (w : List ℕ). nth (address_parts w) k)

  -- what `address` hands back, by what `address_at` answers
  pub address_bytes : (x : Answer Part) → x ≡ Spot (value_of 8 0 v) → or_empty (on_given (bytes_of v) x) ≡ or_empty (Address (value_of 8 0 v))
  address_bytes x e =
      ap (λ (y : Answer Part). or_empty (on_given (bytes_of v) y)) e
      ∙ value_cases 8 0 v (λ (a : Answer (List ℕ)). or_empty (on_given (bytes_of v) (Spot a)) ≡ or_empty (Address a)) (ap or_empty (sym nth_bytes)) (λ n p i. refl)

  pub address_inside : (a n : ℕ) → given (part a n) ≡ Spot (value_of 8 0 v) → a + n ≤ length v
  address_inside a n e =
      value_cases 8 0 v (λ (x : Answer (List ℕ)). given (part a n) ≡ Spot x → a + n ≤ length v)
      (λ h. nth_inside a n h)
      (λ m p i h. absurd (let z : ◌≡◌ {A = ℕ} 0 1 = cc in omega arith))
      e
