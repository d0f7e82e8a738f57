-- The laws of `be`, for every width, and of a value whose length is ruled.
-- Assumes nothing.
use mathlib.Core.Path.{◌≡◌, sym, ap, ◌∙◌}
use mathlib.Core.List.{List}
use Prim.Native.Nat.{ℕ, ◌+◌, ◌*◌, ◌^◌, ◌<◌}
use native.Mathlib.Omega.{arith}
use native.Mathlib.Nat.{pow-suc}
use native.Mathlib.Numerals.{add-one}
use lib.ListN.{length}
use lib.Dec.{eqb, ltb}
use borrow.Author.Tests.{eqb-true, eq-eqb, ne_eqb}
use Rattle.refusal.specs.Sizes.{most_bytes}
use Rattle.refusal.specs.Answer.{Answer, given, absent, refused, on_given}
use Rattle.refusal.specs.Number.{refusal_answer}
use Rattle.refusal.specs.declared.Refusal.{Refusal}
use Rattle.laws.proofs.Tests.{by_test}
use Rattle.std.specs.Int.{w16, w32, w64, from_be_bytes}
use lib.Seq.{take_all}
use Rattle.laws.proofs.Parts.{elements, part_elements}
use Rattle.wire.specs.Be.{be, be_from, wrong_length, ruled, fixed}

-- one byte more is within the bound of one more
pub bound_next : (i x b : ℕ) → x < 256 ^ i → b < 256 → x * 256 + b < 256 ^ (i + 1)
bound_next i x b h k = rw (add-one i, pow-suc) (omega arith)

-- ---- what `from_be_bytes` gives is what the bytes spell
whole : (n : ℕ) (v : List ℕ) → length v ≡ n → elements n 0 v ≡ v
whole n v h = sym (part_elements n 0 v (omega arith)) ∙ take_all n v (omega arith)

module _ (v : List ℕ) where
  pub spelled_2 : length v ≡ 2 → from_be_bytes w16 v ≡ be v
  unfolding be be_from
  spelled_2 h = let e : from_be_bytes w16 v ≡ be (elements 2 0 v) = omega arith in e ∙ ap be (whole 2 v h)

  pub spelled_4 : length v ≡ 4 → from_be_bytes w32 v ≡ be v
  unfolding be be_from
  spelled_4 h = let e : from_be_bytes w32 v ≡ be (elements 4 0 v) = omega arith in e ∙ ap be (whole 4 v h)

  pub spelled_8 : length v ≡ 8 → from_be_bytes w64 v ≡ be v
  unfolding be be_from
  spelled_8 h = let e : from_be_bytes w64 v ≡ be (elements 8 0 v) = omega arith in e ∙ ap be (whole 8 v h)

-- ---- a value whose length is ruled
on_wrong : {A B : Type 0} (f : A → B) (place n : ℕ) → on_given f (wrong_length place n) ≡ wrong_length place n
unfolding wrong_length
on_wrong f place n = by_test (ltb most_bytes n) (λ e. rw e) (λ e. rw e)

-- what `misfit` answers is the refusal of every read, whatever it reads
pub misfit_any : {A : Type 0} (r : Refusal) (place n : ℕ) → refusal_answer {A = ℕ} r ≡ wrong_length place n → refusal_answer {A = A} r ≡ wrong_length place n
unfolding wrong_length
misfit_any r place n e = ap again e ∙ by_test (ltb most_bytes n) (λ t. rw t) (λ t. rw t)
  where
    again : {A : Type 0} → Answer ℕ → Answer A
    again (given x) = absent
    again absent = absent
    again (refused a b c) = refused a b c

-- THE FACT over the length: whatever the length k, a value that has it gives what is read of it, and no other value does
module _ {A : Type 0} (f : List ℕ → A) (k place : ℕ) (v : List ℕ) where
  pub ruled_not : (length v ≡ k → ⊥) → wrong_length place (length v) ≡ on_given f (ruled k place v)
  unfolding ruled
  ruled_not h = rw (ne_eqb _ _ h) (sym (on_wrong f place (length v)))

  pub ruled_is : (x : A) → length v ≡ k → x ≡ f v → given x ≡ on_given f (ruled k place v)
  unfolding ruled
  ruled_is x h e = rw (eq-eqb _ _ h) (ap given e)

-- the bytes themselves
module _ (k place : ℕ) (v : List ℕ) where
  pub whole_is : (w : List ℕ) → length v ≡ k → w ≡ v → given w ≡ ruled k place v
  unfolding ruled
  whole_is w h e = rw (eq-eqb _ _ h) (ap given e)

  pub whole_not : (r : Refusal) → refusal_answer {A = ℕ} r ≡ wrong_length place (length v) → (length v ≡ k → ⊥) → refusal_answer r ≡ ruled k place v
  unfolding ruled
  whole_not r told h = rw (ne_eqb _ _ h) (misfit_any r place _ told)

-- what is given is the value itself, which has the length
pub ruled_gives : (k place : ℕ) (v w : List ℕ) → ruled k place v ≡ given w → (length v ≡ k) × (w ≡ v)
unfolding ruled wrong_length
ruled_gives k place v w e =
    by_test (eqb (length v) k) (λ t. let h = rw t at e in (eqb-true _ _ t, cc))
    (λ t. by_test (ltb most_bytes (length v))
    (λ u. absurd (let h = rw (t, u) at e in let z : ◌≡◌ {A = ℕ} 0 1 = cc in omega arith))
    (λ u. absurd (let h = rw (t, u) at e in let z : ◌≡◌ {A = ℕ} 0 1 = cc in omega arith)))

-- so the number that it spells is given, however the bytes are put together
module _ (place : ℕ) (v w : List ℕ) (x : ℕ) where
  pub reads_2 : given w ≡ ruled 2 place v → x ≡ from_be_bytes w16 w → given x ≡ fixed 2 place v
  unfolding fixed
  reads_2 e is = let h = ruled_gives _ _ _ _ (sym e) in ap given (is ∙ spelled_2 _ (ap length h.1 ∙ h.0)) ∙ ap (on_given be) e

  pub reads_4 : given w ≡ ruled 4 place v → x ≡ from_be_bytes w32 w → given x ≡ fixed 4 place v
  unfolding fixed
  reads_4 e is = let h = ruled_gives _ _ _ _ (sym e) in ap given (is ∙ spelled_4 _ (ap length h.1 ∙ h.0)) ∙ ap (on_given be) e

  pub reads_8 : given w ≡ ruled 8 place v → x ≡ from_be_bytes w64 w → given x ≡ fixed 8 place v
  unfolding fixed
  reads_8 e is = let h = ruled_gives _ _ _ _ (sym e) in ap given (is ∙ spelled_8 _ (ap length h.1 ∙ h.0)) ∙ ap (on_given be) e
