-- Tables by child ID: how a loop fills them, and what they hold at its end.
-- Assumes nothing.
use mathlib.Core.Path.{◌≡◌, refl, sym, ap, ◌∙◌}
use mathlib.Core.Bool.{false}
use mathlib.Core.List.{List, [], ◌∷◌}
use Prim.Native.Nat.{ℕ, suc, ◌+◌, ◌≤◌, ◌<◌}
use native.Mathlib.Omega.{arith}
use native.Mathlib.Nat.{zero-add}
use lib.Dec.{eqb}
use lib.ListN.{length, get_or, set, replicate, length-set, get_or-replicate}
use lib.Seq.{get_or-set_same, get_or-set_other}
use borrow.Author.Tests.{eq-eqb, ne_eqb, eqb-true, eqb-false}
use Rattle.laws.proofs.Tests.{by_test}
use Rattle.refusal.specs.Answer.{Answer, given, absent, refused}
use Rattle.pair_rule.specs.Pairing.{occurs, counts, counting, number_of, judged, pairing}
use Rattle.pair_rule.proofs.Parents.{place_of}
use Rattle.pairing.specs.Loops.{last_place, is_own, unclear_without, key_of, keys_of, Counts, Places}

-- ---- one element more: x itself, or another
pub occurs_none : (i : ℕ) → occurs i [] ≡ 0
unfolding occurs
occurs_none i = refl

place_none : (i best n : ℕ) → last_place i best n [] ≡ best
unfolding last_place
place_none i best n = refl

module _ (x : ℕ) (l rest : List ℕ) (is : l ≡ x ∷ rest) where
  pub occurs_hit : occurs x l ≡ suc (occurs x rest)
  unfolding occurs
  occurs_hit = rw is (simp (eq-eqb x x refl))

  pub occurs_miss : (i : ℕ) → (i ≡ x → ⊥) → occurs i l ≡ occurs i rest
  unfolding occurs
  occurs_miss i h = rw is (simp (ne_eqb x i (λ e. h (sym e))))

  place_hit : (best n : ℕ) → last_place x best n l ≡ last_place x n (n + 1) rest
  unfolding last_place
  place_hit best n = rw is (simp (eq-eqb x x refl))

  place_miss : (i best n : ℕ) → (i ≡ x → ⊥) → last_place i best n l ≡ last_place i best (n + 1) rest
  unfolding last_place
  place_miss i best n h = rw is (simp (ne_eqb x i (λ e. h (sym e))))

-- ---- n are counted, rest is still to be
pub record Counting (table all rest : List ℕ) (n : ℕ) : Type 0 where
  pub long : length table ≡ 512
  pub low : (i : ℕ) → i < 512 → get_or table i 0 ≤ n
  pub is : (i : ℕ) → i < 512 → get_or table i 0 + occurs i rest ≡ occurs i all

pub record Placing (table all rest : List ℕ) (n : ℕ) : Type 0 where
  pub long : length table ≡ 512
  pub is : (i : ℕ) → i < 512 → last_place i (get_or table i 0) n rest ≡ last_place i 0 0 all

pub counting_start : (all : List ℕ) → Counting (replicate 512 0) all all 0
counting_start all = record {
  long = refl;
  low = λ i h. omega (arith, get_or-replicate {A = ℕ} 512 i 0 0 h);
  is = λ i h. rw (get_or-replicate {A = ℕ} 512 i 0 0 h) (zero-add _);
}

pub placing_start : (all : List ℕ) → Placing (replicate 512 0) all all 0
placing_start all = record { long = refl; is = λ i h. rw (get_or-replicate {A = ℕ} 512 i 0 0 h) }

module _ (table all l : List ℕ) (n x : ℕ) (rest : List ℕ) (is : l ≡ x ∷ rest) (h : x < 512) where
  pub counting_more : (k : ℕ) → k ≡ n + 1 → Counting table all l n → Counting (set table x (get_or table x 0 + 1)) all rest k
  counting_more m e g =
      let same = get_or-set_same table x (get_or table x 0 + 1) 0 (rw g.long h) in
      record {
        long = length-set table x (get_or table x 0 + 1) ∙ g.long;
        low = λ i k.
            by_test (eqb i x)
            (λ t. let q = eqb-true i x t in rw (q, same) (omega (arith, e, g.low x h)))
            (λ t. rw (get_or-set_other table x i (get_or table x 0 + 1) 0 (eqb-false i x t)) (omega (arith, e, g.low i k)));
        is = λ i k.
            by_test (eqb i x)
            (λ t. let q = eqb-true i x t in rw (q, same) (omega (arith, g.is x h, occurs_hit x l rest is)))
            (λ t.
            rw (get_or-set_other table x i (get_or table x 0 + 1) 0 (eqb-false i x t))
            (omega (arith, g.is i k, occurs_miss x l rest is i (eqb-false i x t))));
      }

  pub placing_more : (p k : ℕ) → p ≡ n → k ≡ n + 1 → Placing table all l n → Placing (set table x p) all rest k
  placing_more p m d e g = rw (d, e) (record {
    long = length-set table x n ∙ g.long;
    is = λ i k.
        by_test (eqb i x)
        (λ e.
        let q = eqb-true i x e in
        rw (q, get_or-set_same table x n 0 (rw g.long h)) (sym (place_hit x l rest is (get_or table x 0) n) ∙ g.is x h))
        (λ e.
        rw (get_or-set_other table x i n 0 (eqb-false i x e)) (sym (place_miss x l rest is i (get_or table i 0) n (eqb-false i x e)) ∙ g.is i k));
  })

-- one that no child ID is
module _ (table all l : List ℕ) (n : ℕ) (rest : List ℕ) (is : l ≡ 512 ∷ rest) where
  pub counting_other : (k : ℕ) → k ≡ n + 1 → Counting table all l n → Counting table all rest k
  counting_other m e g = record {
    long = g.long;
    low = λ i k. omega (arith, e, g.low i k);
    is = λ i k. omega (arith, g.is i k, occurs_miss 512 l rest is i (λ e. omega arith));
  }

  pub placing_other : (k : ℕ) → k ≡ n + 1 → Placing table all l n → Placing table all rest k
  placing_other m e g = record {
    long = g.long;
    is = λ i k. rw e (sym (place_miss 512 l rest is i (get_or table i 0) n (λ z. omega arith)) ∙ g.is i k);
  }

module _ (table all l : List ℕ) (n : ℕ) (none : l ≡ []) where
  pub counting_end : Counting table all l n → Counts table all
  counting_end g = record { is = λ i h. omega (arith, g.is i h, ap (occurs i) none ∙ occurs_none i) }

  pub placing_end : Placing table all l n → Places table all
  placing_end g = record { is = λ i h. sym (ap (last_place i (get_or table i 0) n) none ∙ place_none i (get_or table i 0) n) ∙ g.is i h }

-- the same rest, seen otherwise
pub counting_same : (table all l m : List ℕ) (n : ℕ) → l ≡ m → Counting table all l n → Counting table all m n
counting_same table all l m n e g = rw e at g

pub placing_same : (table all l m : List ℕ) (n : ℕ) → l ≡ m → Placing table all l n → Placing table all m n
placing_same table all l m n e g = rw e at g

-- ---- what the counts and the place say of a row

-- the last place is the only one
last_not : (x best n : ℕ) (ys : List ℕ) → occurs x ys ≡ 0 → last_place x best n ys ≡ best
unfolding occurs last_place
last_not x best n [] h = refl
last_not x best n (y ∷ ys) h =
    by_test (eqb y x)
    (λ e. absurd (let z : suc (occurs x ys) ≡ 0 = rw e at h in omega arith))
    (λ e. rw e (last_not x best (n + 1) ys (rw e at h)))

last_only : (x best n : ℕ) (ys : List ℕ) → occurs x ys ≡ 1 → last_place x best n ys ≡ n + place_of x ys
unfolding occurs last_place place_of
last_only x best n [] h = absurd (omega arith)
last_only x best n (y ∷ ys) h =
    by_test (eqb y x)
    (λ e. let z : suc (occurs x ys) ≡ 1 = rw e at h in rw e (last_not x n (n + 1) ys (omega arith) ∙ omega arith))
    (λ e. rw e (last_only x best (n + 1) ys (rw e at h) ∙ omega arith))

-- by the keys, for a child ID
module _ (mac x : ℕ) (low : x < 512) where
  occurs_keys : (ls : List ℕ) → occurs x (keys_of (given mac) ls) ≡ occurs x (counting mac ls)
  unfolding occurs keys_of key_of is_own counting
  occurs_keys [] = refl
  occurs_keys (l ∷ ls) =
      by_test (counts mac l)
      (λ a. rw a (rw (occurs_keys ls)))
      (λ a. rw (a, ne_eqb 512 x (λ e. omega arith)) (occurs_keys ls))

  place_keys : (ls : List ℕ) → place_of x (keys_of (given mac) ls) ≡ number_of mac x ls
  unfolding place_of keys_of key_of is_own number_of
  place_keys [] = refl
  place_keys (l ∷ ls) =
      by_test (counts mac l)
      (λ a. rw a (rw (place_keys ls)))
      (λ a. rw (a, ne_eqb 512 x (λ e. omega arith)) (ap suc (place_keys ls)))

pub judged_is : (own : Answer ℕ) (rows lists : List ℕ) (id : ℕ) → id < 512
    → unclear_without own (judged (occurs id rows) (occurs id (keys_of own lists)) (last_place id 0 0 (keys_of own lists))) ≡ pairing own rows lists id
unfolding unclear_without pairing judged
judged_is (given mac) rows lists id h =
    by_test (eqb (occurs id (keys_of (given mac) lists)) 1)
    (λ e.
    rw (last_only id 0 0 (keys_of (given mac) lists) (eqb-true _ _ e)) (rw zero-add (rw (place_keys mac id h lists, occurs_keys mac id h lists))))
    (λ e. let out : eqb (occurs id (counting mac lists)) 1 ≡ false = rw (occurs_keys mac id h lists) at e in
    rw (occurs_keys mac id h lists, out))
judged_is absent rows lists id h = refl
judged_is (refused n q i) rows lists id h = refl
