-- Whose lists count: what a list of another parent changes, what is said without a MAC Address, and what document 01's rule said.
-- Assumes nothing.
use mathlib.Core.Path.{◌≡◌, refl, sym, ap, ◌∙◌}
use mathlib.Core.Bool.{Bool, false}
use mathlib.Core.List.{List, [], ◌∷◌, ◌++◌, map}
use Prim.Native.Nat.{ℕ, zero, suc, ◌≤◌}
use native.Mathlib.Omega.{arith}
use lib.Dec.{eqb, ltb}
use lib.ListN.{length}
use borrow.Author.Tests.{eq-eqb, ne_eqb, eqb-true, lt-ltb, le-ltb, ltb-true, ltb-false}
use Rattle.refusal.specs.Answer.{pick, Answer, given, absent, refused, on_given}
use Rattle.refusal.specs.Every.{Every}
use Rattle.refusal.specs.Numbered.{nth}
use Rattle.laws.proofs.Tests.{by_test}
use Rattle.pair_rule.specs.Pairing.{occurs, parent_of, child_of, counts, counting, number_of, judged, pairing}
use Rattle.pair_rule.specs.declared.Pairing.{Pairing}
use Rattle.pair_rule.specs.declared.Pairing.TheVariants as p

-- ---- "With no MAC Address value, every row is "unclear""
pub no_mac : (rows lists : List ℕ) (id : ℕ) → pairing absent rows lists id ≡ p.Unclear
unfolding pairing
no_mac rows lists id = refl

-- ---- a list that does not count, put in after n others: the lists after it have other numbers, and nothing else changes

-- the number that list k has then,
abbrev pub after : (n k : ℕ) → ℕ
after n k = pick (ltb k n) k (suc k)

after_next : (n k i : ℕ) → i ≡ after n k → suc i ≡ after (suc n) (suc k)
after_next n k i e =
    by_test (ltb k n)
    (λ t. rw (lt-ltb (suc k) (suc n) (omega (arith, ltb-true k n t))) (ap suc (rw t at e)))
    (λ t. rw (le-ltb (suc k) (suc n) (omega (arith, ltb-false k n t))) (ap suc (rw t at e)))

after_first : (n : ℕ) → ◌≡◌ {A = ℕ} 0 (after (suc n) 0)
after_first n = ap (λ (t : Bool). pick {A = ℕ} t 0 1) (sym (lt-ltb 0 (suc n) (omega arith)))

-- for it is the same list,
pub same_list : {A : Type 0} (l : A) (a b : List A) (k : ℕ) → nth (a ++ l ∷ b) (after (length a) k) ≡ nth (a ++ b) k
unfolding nth
same_list l [] b k = rw (le-ltb k 0 (omega arith))
same_list l (x ∷ a) b zero = ap (nth (x ∷ a ++ l ∷ b)) (sym (after_first (length a)))
same_list l (x ∷ a) b (suc k) = ap (nth (x ∷ a ++ l ∷ b)) (sym (after_next (length a) k _ refl)) ∙ same_list l a b k

-- and the answer that names it
unfoldable pub moved : (n : ℕ) → Pairing → Pairing
moved n (p.Paired k) = p.Paired (after n k)
moved n p.None = p.None
moved n p.Unclear = p.Unclear

judged_moved : (n rows lists i j : ℕ) → (1 ≤ lists → i ≡ after n j) → judged rows lists i ≡ moved n (judged rows lists j)
unfolding judged moved
judged_moved n rows lists i j e =
    by_test (eqb rows 1)
    (λ a. by_test (eqb lists 1)
    (λ b. rw (a, b) (ap p.Paired (e (omega (arith, eqb-true lists 1 b)))))
    (λ b. by_test (eqb lists 0) (λ c. rw (a, b, c)) (λ c. rw (a, b, c))))
    (λ a. rw a)

uncounted : (mac l : ℕ) → (parent_of l ≡ parent_of mac → ⊥) → counts mac l ≡ false
unfolding counts
uncounted mac l h = ne_eqb _ _ h

module _ (mac l : ℕ) (out : counts mac l ≡ false) where
  counting_without : (a b : List ℕ) → counting mac (a ++ l ∷ b) ≡ counting mac (a ++ b)
  unfolding counting
  counting_without [] b = rw out
  counting_without (x ∷ a) b = rw (counting_without a b)

  number_without : (x : ℕ) (a b : List ℕ) → 1 ≤ occurs x (counting mac (a ++ b)) → number_of mac x (a ++ l ∷ b) ≡ after (length a) (number_of mac x (a ++ b))
  unfolding occurs counting number_of
  number_without x [] b h = rw (out, le-ltb (number_of mac x b) 0 (omega arith))
  number_without x (y ∷ a) b h =
      by_test (counts mac y)
      (λ c. by_test (eqb (child_of y) x)
      (λ e. rw (c, e) (after_first (length a)))
      (λ e. rw (c, e) (after_next (length a) (number_of mac x (a ++ b)) (number_of mac x (a ++ l ∷ b)) (number_without x a b (rw (c, e) at h)))))
      (λ c. rw c (after_next (length a) (number_of mac x (a ++ b)) (number_of mac x (a ++ l ∷ b)) (number_without x a b (rw c at h))))

-- THE LAW: with and without a list of another parent every row's answer is the same list, none, or unclear
pub another_parent : (own : Answer ℕ) (l : ℕ) → (on_given parent_of own ≡ given (parent_of l) → ⊥)
    → (rows a b : List ℕ) (id : ℕ) → pairing own rows (a ++ l ∷ b) id ≡ moved (length a) (pairing own rows (a ++ b) id)
unfolding pairing moved
another_parent (given mac) l other rows a b id =
    let out = uncounted mac l (λ e. other (ap given (sym e))) in
    rw (counting_without mac l out a b) (judged_moved (length a) _ _ _ _ (number_without mac l out id a b))
another_parent absent l other rows a b id = refl
another_parent (refused n q i) l other rows a b id = refl

-- ---- where every list is of the payload's own parent: the answer is what document 01's rule gave

-- the place of the first x in ys, from 0
unfoldable pub place_of : ℕ → List ℕ → ℕ
place_of x [] = 0
place_of x (y ∷ ys) = pick (eqb y x) 0 (suc (place_of x ys))

-- 01: "paired with an address list if its child ID stands once in the table and once among the lists", over the child IDs of all lists
abbrev pub rule01 : (rows lists : List ℕ) → (id : ℕ) → Pairing
rule01 rows lists id = judged (occurs id rows) (occurs id lists) (place_of id lists)

module _ (mac : ℕ) where
  counting_all : (lists : List ℕ) → Every (λ (l : ℕ). parent_of l ≡ parent_of mac) lists → counting mac lists ≡ map child_of lists
  unfolding counting counts
  counting_all [] h = refl
  counting_all (l ∷ ls) h = rw (eq-eqb (parent_of l) (parent_of mac) h.0) (ap (◌∷◌ (child_of l)) (counting_all ls h.1))

  number_all : (x : ℕ) (lists : List ℕ) → Every (λ (l : ℕ). parent_of l ≡ parent_of mac) lists → number_of mac x lists ≡ place_of x (map child_of lists)
  unfolding number_of counts place_of
  number_all x [] h = refl
  number_all x (l ∷ ls) h = rw (eq-eqb (parent_of l) (parent_of mac) h.0, number_all x ls h.1)

  pub as_before : (rows lists : List ℕ) (id : ℕ) → Every (λ (l : ℕ). parent_of l ≡ parent_of mac) lists
      → pairing (given mac) rows lists id ≡ rule01 rows (map child_of lists) id
  unfolding pairing
  as_before rows lists id h = rw (counting_all lists h, number_all id lists h)
