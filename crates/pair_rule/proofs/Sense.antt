-- What the pairing of a child ID says, and what it depends on.
-- Assumes nothing.
use mathlib.Core.Path.{◌≡◌, refl, ap}
use mathlib.Core.Bool.{true}
use mathlib.Core.List.{List, [], ◌∷◌}
use Prim.Native.Nat.{ℕ, zero, suc, ◌≤◌, ◌<◌}
use native.Mathlib.Omega.{arith}
use lib.Dec.{eqb}
use lib.ListN.{length, get_or}
use borrow.Author.Tests.{eq-eqb, ne_eqb, eqb-true}
use Rattle.refusal.specs.Answer.{Answer, given, absent, refused}
use Rattle.laws.proofs.Tests.{by_test}
use Rattle.refusal.specs.Numbered.{nth}
use Rattle.pair_rule.specs.Pairing.{occurs, parent_of, child_of, counts, counting, number_of, judged, pairing}
use Rattle.pair_rule.specs.declared.Pairing.{Pairing}
use Rattle.pair_rule.specs.declared.Pairing.TheVariants as p

-- ---- by the counts, where the payload has a MAC Address
module _ (mac : ℕ) (rows lists : List ℕ) (id : ℕ) where
  pub is_paired : occurs id rows ≡ 1 → occurs id (counting mac lists) ≡ 1 → pairing (given mac) rows lists id ≡ p.Paired (number_of mac id lists)
  unfolding pairing judged
  is_paired h k = rw (h, k)

  pub is_none : occurs id rows ≡ 1 → occurs id (counting mac lists) ≡ 0 → pairing (given mac) rows lists id ≡ p.None
  unfolding pairing judged
  is_none h k = rw (h, k)

pub is_unclear : (own : Answer ℕ) (rows lists : List ℕ) (id : ℕ) → (occurs id rows ≡ 1 → ⊥) → pairing own rows lists id ≡ p.Unclear
unfolding pairing judged
is_unclear (given mac) rows lists id h = rw (ne_eqb _ _ h)
is_unclear absent rows lists id h = refl
is_unclear (refused n q i) rows lists id h = refl

-- ---- where a list that counts stands
counted_parent : (mac l : ℕ) → counts mac l ≡ true → parent_of l ≡ parent_of mac
unfolding counts
counted_parent mac l h = eqb-true _ _ h

-- list k, which counts and has the child ID x
record At (mac x : ℕ) (lists : List ℕ) (k : ℕ) : Type 0 where
  there : nth lists k ≡ given (get_or lists k 0)
  number : k < length lists
  counted : counts mac (get_or lists k 0) ≡ true
  child : child_of (get_or lists k 0) ≡ x

next_at : (mac x l : ℕ) (ls : List ℕ) (k : ℕ) → At mac x ls k → At mac x (l ∷ ls) (suc k)
unfolding nth
next_at mac x l ls k h = record { there = h.there; number = omega (arith, h.number); counted = h.counted; child = h.child }

at_by : (mac x : ℕ) (ls : List ℕ) → 1 ≤ occurs x (counting mac ls) → At mac x ls (number_of mac x ls)
unfolding occurs counting number_of nth
at_by mac x [] h = absurd (omega arith)
at_by mac x (l ∷ ls) h =
    by_test (counts mac l)
    (λ a. by_test (eqb (child_of l) x)
    (λ e. rw (a, e) (record { there = refl; number = omega arith; counted = a; child = eqb-true _ _ e }))
    (λ e. rw (a, e) (next_at mac x l ls (number_of mac x ls) (at_by mac x ls (rw (a, e) at h)))))
    (λ a. rw a (next_at mac x l ls (number_of mac x ls) (at_by mac x ls (rw a at h))))

-- ---- what an answer says
apart : {G : Type 0} (x y : Pairing) → (x ≡ y → ◌≡◌ {A = ℕ} 0 1) → x ≡ y → G
apart x y never e = absurd (let z = never e in omega arith)

-- "paired with k": the payload has a MAC Address; the ID stands once in the table and once among the lists of its parent, and list k is that one
pub record Pair (own : Answer ℕ) (rows lists : List ℕ) (id k : ℕ) : Type 0 where
  pub mac : ℕ
  pub named : own ≡ given mac
  pub once_in_table : occurs id rows ≡ 1
  pub once_among_lists : occurs id (counting mac lists) ≡ 1
  pub rloc16 : ℕ
  pub there : nth lists k ≡ given rloc16
  pub of_parent : parent_of rloc16 ≡ parent_of mac
  pub of_child : child_of rloc16 ≡ id
  pub number : k < length lists

-- "none": the payload has a MAC Address; the ID stands once in the table and in no list of its parent
pub record Alone (own : Answer ℕ) (rows lists : List ℕ) (id : ℕ) : Type 0 where
  pub mac : ℕ
  pub named : own ≡ given mac
  pub once_in_table : occurs id rows ≡ 1
  pub in_no_list : occurs id (counting mac lists) ≡ 0

module _ (rows lists : List ℕ) (id : ℕ) where
  pub paired_is : (own : Answer ℕ) (k : ℕ) → pairing own rows lists id ≡ p.Paired k → Pair own rows lists id k
  unfolding pairing judged
  paired_is (given mac) k h =
      by_test (eqb (occurs id rows) 1)
      (λ a. by_test (eqb (occurs id (counting mac lists)) 1)
      (λ b. let same : p.Paired (number_of mac id lists) ≡ p.Paired k = rw (a, b) at h in
      let here : number_of mac id lists ≡ k = cc in
      let one : occurs id (counting mac lists) ≡ 1 = eqb-true _ _ b in
      let at = rw here at (at_by mac id lists (omega arith)) in
      record {
        mac = mac;
        named = refl;
        once_in_table = eqb-true _ _ a;
        once_among_lists = one;
        rloc16 = get_or lists k 0;
        there = at.there;
        of_parent = counted_parent mac _ at.counted;
        of_child = at.child;
        number = at.number;
      })
      (λ b. by_test (eqb (occurs id (counting mac lists)) 0)
      (λ e. apart p.None (p.Paired k) (λ z. cc) (rw (a, b, e) at h))
      (λ e. apart p.Unclear (p.Paired k) (λ z. cc) (rw (a, b, e) at h))))
      (λ a. apart p.Unclear (p.Paired k) (λ z. cc) (rw a at h))
  paired_is absent k h = apart p.Unclear (p.Paired k) (λ z. cc) h
  paired_is (refused n q i) k h = apart p.Unclear (p.Paired k) (λ z. cc) h

  pub none_is : (own : Answer ℕ) → pairing own rows lists id ≡ p.None → Alone own rows lists id
  unfolding pairing judged
  none_is (given mac) h =
      by_test (eqb (occurs id rows) 1)
      (λ a. by_test (eqb (occurs id (counting mac lists)) 1)
      (λ b. apart (p.Paired (number_of mac id lists)) p.None (λ z. cc) (rw (a, b) at h))
      (λ b. by_test (eqb (occurs id (counting mac lists)) 0)
      (λ e. record { mac = mac; named = refl; once_in_table = eqb-true _ _ a; in_no_list = eqb-true _ _ e })
      (λ e. apart p.Unclear p.None (λ z. cc) (rw (a, b, e) at h))))
      (λ a. apart p.Unclear p.None (λ z. cc) (rw a at h))
  none_is absent h = apart p.Unclear p.None (λ z. cc) h
  none_is (refused n q i) h = apart p.Unclear p.None (λ z. cc) h

-- ---- two places
occurs_some : (x : ℕ) (ys : List ℕ) (i : ℕ) → nth ys i ≡ given x → 1 ≤ occurs x ys
unfolding occurs nth
occurs_some x [] i h = absurd (let z : ◌≡◌ {A = ℕ} 0 1 = cc in omega arith)
occurs_some x (y ∷ ys) zero h = let same : y ≡ x = cc in rw (eq-eqb y x same) (omega arith)
occurs_some x (y ∷ ys) (suc i) h =
    let more = occurs_some x ys i h in
    by_test (eqb y x) (λ e. rw e (omega arith)) (λ e. rw e more)

pub occurs_twice : (x : ℕ) (ys : List ℕ) (i j : ℕ) → (i ≡ j → ⊥) → nth ys i ≡ given x → nth ys j ≡ given x → 2 ≤ occurs x ys
unfolding occurs nth
occurs_twice x [] i j apart h k = absurd (let z : ◌≡◌ {A = ℕ} 0 1 = cc in omega arith)
occurs_twice x (y ∷ ys) zero zero apart h k = absurd (apart refl)
occurs_twice x (y ∷ ys) zero (suc j) apart h k = let same : y ≡ x = cc in rw (eq-eqb y x same) (omega (arith, occurs_some x ys j k))
occurs_twice x (y ∷ ys) (suc i) zero apart h k = let same : y ≡ x = cc in rw (eq-eqb y x same) (omega (arith, occurs_some x ys i h))
occurs_twice x (y ∷ ys) (suc i) (suc j) apart h k =
    let more = occurs_twice x ys i j (λ e. apart (ap suc e)) h k in
    by_test (eqb y x) (λ e. rw e (omega arith)) (λ e. rw e more)
