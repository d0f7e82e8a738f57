-- A value that may be read, and one that may not: what a caller of `check_value` learns.
-- Assumes nothing.
use mathlib.Core.Path.{◌≡◌, refl, sym, ap, ◌∙◌}
use mathlib.Core.Bool.{Bool, true, false}
use mathlib.Core.List.{List}
use Prim.Native.Nat.{ℕ, ◌-◌, ◌%◌, ◌≤◌}
use native.Mathlib.Omega.{arith}
use lib.ListN.{length, take, drop}
use lib.Dec.{ltb, leb, eqb}
use borrow.Author.Tests.{eqb-true, leb-true, ltb-false, le-ltb, ne_eqb}
use Rattle.refusal.specs.Sizes.{most_bytes}
use Rattle.refusal.specs.Answer.{pick, Answer, given, refused, on_given, then_do}
use Rattle.refusal.specs.Number.{refusal_answer}
use Rattle.refusal.specs.declared.Refusal.{Refusal}
use Rattle.laws.proofs.Parts.{length_part}
use Rattle.laws.proofs.Tests.{by_test, pick_all}
use Rattle.diag_rules.specs.Mask.{routes_fit}
use Rattle.diag_rules.specs.Rule.{keeps_rule, value_of}
use Rattle.diag_rules.specs.Answers.{judged}

-- nothing is both given and refused
apart : {G : Type 0} {n p i : ℕ} → ◌≡◌ {A = Answer (Unit {0})} (given tt) (refused n p i) → G
apart e = absurd (let z : ◌≡◌ {A = ℕ} 0 1 = cc in omega arith)

-- two tests, the second made where the first passes
pub both : (b c : Bool) → pick b c false ≡ true → (b ≡ true) × (c ≡ true)
both true c h = (refl, h)
both false c h = absurd (let z : ◌≡◌ {A = ℕ} 0 1 = cc in omega arith)

module _ (ty place : ℕ) (v : List ℕ) where
  -- by the tests of `check_value`
  pub value_large : ltb most_bytes (length v) ≡ true → value_of ty place v ≡ refused 1 0 0
  unfolding value_of
  value_large h = rw h

  pub value_kept : ltb most_bytes (length v) ≡ false → keeps_rule ty v ≡ true → value_of ty place v ≡ given v
  unfolding value_of
  value_kept h k = rw (h, k)

  pub value_broken : ltb most_bytes (length v) ≡ false → keeps_rule ty v ≡ false → value_of ty place v ≡ refused 4 place 0
  unfolding value_of
  value_broken h k = rw (h, k)

  -- it is the value, or a refusal
  pub value_cases : (P : Answer (List ℕ) → Type 0) → P (given v) → ((n p i : ℕ) → P (refused n p i)) → P (value_of ty place v)
  unfolding value_of
  value_cases P g h =
      pick_all P (ltb most_bytes (length v)) (refused 1 0 0) (pick (keeps_rule ty v) (given v) (refused 4 place 0)) (λ t. h 1 0 0)
      (λ t. pick_all P (keeps_rule ty v) (given v) (refused 4 place 0) (λ k. g) (λ k. h 4 place 0))

  -- what is read of a value that is kept is the value's own
  pub kept : given tt ≡ judged (value_of ty place v) → (value_of ty place v ≡ given v) × (keeps_rule ty v ≡ true) × (length v ≤ most_bytes)
  kept e =
      by_test (ltb most_bytes (length v))
      (λ h. apart (e ∙ ap judged (value_large h)))
      (λ h. by_test (keeps_rule ty v) (λ k. (value_kept h k, k, ltb-false _ _ h)) (λ k. apart (e ∙ ap judged (value_broken h k))))

-- `check_value` answered that a value is kept
abbrev pub Keeps : (ty place : ℕ) → List ℕ → Type 0
Keeps ty place v = given tt ≡ judged (value_of ty place v)

-- what a decoder then answers
module _ {A : Type 0} (f : List ℕ → A) (ty place : ℕ) (v : List ℕ) where
  pub read_kept : Keeps ty place v → (x : A) → x ≡ f v → given x ≡ on_given f (value_of ty place v)
  read_kept e x same = rw (kept ty place v e).0 (ap given same)

  pub read_refused : (r : Refusal) → refusal_answer r ≡ judged (value_of ty place v) → refusal_answer r ≡ on_given f (value_of ty place v)
  read_refused r e =
      value_cases ty place v (λ (a : Answer (List ℕ)). refusal_answer r ≡ judged a → refusal_answer r ≡ on_given f a) (λ h. apart (sym h)) (λ n p i h. cc) e

-- and a call for one row
module _ {A : Type 0} (f : List ℕ → Answer A) (ty place : ℕ) (v : List ℕ) where
  pub row_kept : Keeps ty place v → (a : Answer A) → a ≡ f v → a ≡ then_do (value_of ty place v) f
  row_kept e a same = rw (kept ty place v e).0 same

  pub row_refused : (r : Refusal) → refusal_answer r ≡ judged (value_of ty place v) → refusal_answer r ≡ then_do (value_of ty place v) f
  row_refused r e =
      value_cases ty place v (λ (a : Answer (List ℕ)). refusal_answer r ≡ judged a → refusal_answer r ≡ then_do a f) (λ h. apart (sym h)) (λ n p i h. cc) e

-- the lengths of values that are kept
module _ (place : ℕ) (v : List ℕ) where
  pub mode_size : Keeps 2 place v → length v ≡ 1
  unfolding keeps_rule
  mode_size e = eqb-true _ _ (kept 2 place v e).1

  pub battery_size : Keeps 14 place v → length v ≡ 1
  unfolding keeps_rule
  battery_size e = eqb-true _ _ (kept 14 place v e).1

  pub connectivity_size : Keeps 4 place v → 7 ≤ length v
  unfolding keeps_rule
  connectivity_size e = leb-true _ _ (kept 4 place v e).1

  pub leader_size : Keeps 6 place v → length v ≡ 8
  unfolding keeps_rule
  leader_size e = eqb-true _ _ (kept 6 place v e).1

  pub counters_size : Keeps 9 place v → length v ≡ 36
  unfolding keeps_rule
  counters_size e = eqb-true _ _ (kept 9 place v e).1

  pub routes_fit_lem : Keeps 5 place v → routes_fit v ≡ true
  unfolding keeps_rule
  routes_fit_lem e = (kept 5 place v e).1

  list_tests : Keeps 30 place v → (leb 2 (length v) ≡ true) × (eqb ((length v - 2) % 16) 0 ≡ true)
  unfolding keeps_rule
  list_tests e = both (leb 2 (length v)) (eqb ((length v - 2) % 16) 0) (kept 30 place v e).1

  pub list_size : Keeps 30 place v → 2 ≤ length v
  list_size e = leb-true _ _ (list_tests e).0

  -- the part of a child's list that holds its addresses is an address list of its own, so `address_at` and `address` read it
  pub list_part : Keeps 30 place v → value_of 8 0 (take (length v - 2) (drop 2 v)) ≡ given (take (length v - 2) (drop 2 v))
  unfolding keeps_rule
  list_part e =
      let n : length (take (length v - 2) (drop 2 v)) ≡ length v - 2 = length_part v 2 (length v - 2) (omega (arith, list_size e)) in
      let few : length (take (length v - 2) (drop 2 v)) ≤ most_bytes = omega (arith, (kept 30 place v e).2) in
      value_kept 8 0 _ (le-ltb _ _ few) (rw n (list_tests e).1)

-- the types that are in no line of the code's table keep the rule
module _ (t : ℕ) (v : List ℕ) where
  abbrev Not : ℕ → Type 0
  Not n = t ≡ n → ⊥

  pub other_kept : Not 1 → Not 2 → Not 3 → Not 4 → Not 5 → Not 6 → Not 8 → Not 9 → Not 14 → Not 15 → Not 16 → Not 23 → Not 30 → true ≡ keeps_rule t v
  unfolding keeps_rule
  other_kept a b c d e f g h i j k l m =
      simp (
        ne_eqb _ _ a,
        ne_eqb _ _ b,
        ne_eqb _ _ c,
        ne_eqb _ _ d,
        ne_eqb _ _ e,
        ne_eqb _ _ f,
        ne_eqb _ _ g,
        ne_eqb _ _ h,
        ne_eqb _ _ i,
        ne_eqb _ _ j,
        ne_eqb _ _ k,
        ne_eqb _ _ l,
        ne_eqb _ _ m,
      )
      (any (eqb t 0) (eqb t 17) (eqb t 18))
    where
      any : (x y z : Bool) → true ≡ pick x true (pick y true (pick z true true))
      any true y z = refl
      any false true z = refl
      any false false true = refl
      any false false false = refl
