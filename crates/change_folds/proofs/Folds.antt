-- The laws of folding: a fold touches and sets what its list does, and lists that touch and set the same fold to the same.
-- Assumes nothing.
use mathlib.Core.Path.{◌≡◌, refl, sym, ap, ◌∙◌, fun_ext}
use mathlib.Core.Bool.{false, ◌&&◌, or-false}
use mathlib.Core.List.{List, [], ◌∷◌, ◌++◌, append_assoc}
use Prim.Native.Nat.{ℕ, zero, suc, ◌≤◌, ◌<◌}
use native.Mathlib.Omega.{arith}
use lib.Dec.{eqb, ltb}
use borrow.Author.Tests.{eqb-true, eqb-false, ne_eqb, ltb-true, ltb-false, lt-ltb, le-ltb}
use Rattle.refusal.specs.Answer.{pick}
use Rattle.laws.proofs.Tests.{by_test, pick_all}
use Rattle.refusal.specs.Every.{Every}
use Rattle.tlv.specs.Entries.{Content}
use Rattle.change_lists.specs.Operations.{Op, set, remove}
use Rattle.change_folds.specs.Run.{run_all}
use Rattle.change_folds.specs.Fold.{about, touches, lasts, sets_of, removes, removals_below, types, fold_all}
use Rattle.laws.proofs.Parts.{every_append}
use Rattle.change_folds.proofs.Lasts.{others, touches_append, sets_append, last_set_or_removed, not_set, removed_is, run_is}

-- ---- removals, types ascending

pub removals_same : (a b : List Op) (n : ℕ) → ((t : ℕ) → t < n → removes a t ≡ removes b t) → removals_below n a ≡ removals_below n b
unfolding removals_below
removals_same a b zero h = refl
removals_same a b (suc n) h = rw (removals_same a b n (λ t l. h t (omega arith)), h n (omega arith))

sets_removals : (n : ℕ) (os : List Op) → sets_of (lasts (removals_below n os)) ≡ []
unfolding removals_below lasts sets_of touches others
sets_removals zero os = refl
sets_removals (suc n) os =
    sets_append (removals_below n os) (pick (removes os n) (remove n ∷ []) [])
    ∙ rw (sets_removals n os) (by_test (removes os n) (λ e. rw e) (λ e. rw e))

ltb_suc : (t n : ℕ) → eqb n t ≡ false → ltb t (suc n) ≡ ltb t n
ltb_suc t n e =
    let apart = eqb-false n t e in
    by_test (ltb t n)
    (λ f. rw f (lt-ltb t (suc n) (omega (arith, ltb-true))))
    (λ f. rw f (le-ltb t (suc n) (omega (arith, ltb-false))))

touches_removals : (n : ℕ) (os : List Op) (t : ℕ) → touches (removals_below n os) t ≡ ltb t n && removes os t
unfolding removals_below touches about
touches_removals zero os t = rw (le-ltb t 0 (omega arith))
touches_removals (suc n) os t =
    rw (touches_append, touches_removals n os t)
    (by_test (eqb n t)
    (λ e.
    let same : n ≡ t = eqb-true n t e in
    rw (le-ltb t n (omega arith), lt-ltb t (suc n) (omega arith), ← ap (removes os) same)
    (by_test (removes os n) (λ f. rw (f, e)) (λ f. rw f)))
    (λ e. rw (ltb_suc t n e) (by_test (removes os n) (λ f. rw (f, e, or-false)) (λ f. rw (f, or-false)))))

-- ---- a property of every operation

-- what `fold_all` is made of, for the laws that any fold of this shape keeps
abbrev shape : List Op → List Op
shape os = removals_below types (lasts os) ++ sets_of (lasts os)

module _ (P : Op → Type 0) where
  every_lasts : (os : List Op) → Every P os → Every P (lasts os)
  unfolding lasts
  every_lasts [] h = tt
  every_lasts (o ∷ os) h =
      pick_all (Every P) (touches os (about o)) (lasts os) (o ∷ lasts os) (λ e. every_lasts os h.1) (λ e. (h.0, every_lasts os h.1))

  every_sets : (os : List Op) → Every P os → Every P (sets_of os)
  unfolding sets_of
  every_sets [] h = tt
  every_sets (set c ∷ os) h = (h.0, every_sets os h.1)
  every_sets (remove t ∷ os) h = every_sets os h.1

  every_removals : (n : ℕ) (os : List Op) → ((t : ℕ) → t < n → P (remove t)) → Every P (removals_below n os)
  unfolding removals_below
  every_removals zero os h = tt
  every_removals (suc n) os h =
      every_append P (removals_below n os) (pick (removes os n) (remove n ∷ []) []) (every_removals n os (λ t l. h t (omega arith)))
      (pick_all (Every P) (removes os n) (remove n ∷ []) [] (λ e. (h n (omega arith), tt)) (λ e. tt))

  every_shape : (os : List Op) → ((t : ℕ) → t < types → P (remove t)) → Every P os → Every P (shape os)
  every_shape os r h =
      every_append P (removals_below types (lasts os)) (sets_of (lasts os)) (every_removals types (lasts os) r)
      (every_sets (lasts os) (every_lasts os h))

-- the types of operations are types
abbrev pub Typed : List Op → Type 0
Typed = Every (λ (o : Op). about o < types)

pub touches_typed : (os : List Op) → Typed os → (t : ℕ) → types ≤ t → touches os t ≡ false
unfolding touches
touches_typed [] g t h = refl
touches_typed (o ∷ os) g t h = rw (ne_eqb (about o) t (λ e. omega arith)) (touches_typed os g.1 t h)

-- ---- what a fold sets and touches

last_sets : (os : List Op) → sets_of (lasts (sets_of (lasts os))) ≡ sets_of (lasts os)
unfolding lasts sets_of about
last_sets [] = refl
last_sets (set c ∷ os) =
    by_test (touches os c.ty) (λ e. rw e (last_sets os)) (λ e. rw (e, not_set os c.ty e) (ap (λ r. set c ∷ r) (last_sets os)))
last_sets (remove t ∷ os) = by_test (touches os t) (λ e. rw e (last_sets os)) (λ e. rw e (last_sets os))

shape_sets : (os : List Op) → sets_of (lasts (shape os)) ≡ sets_of (lasts os)
unfolding others
shape_sets os = sets_append (removals_below types (lasts os)) (sets_of (lasts os)) ∙ rw (sets_removals types (lasts os), last_sets os)

shape_touches : (os : List Op) → Typed os → touches (shape os) ≡ touches os
shape_touches os g = fun_ext λ t.
    touches_append (removals_below types (lasts os)) (sets_of (lasts os)) t
    ∙ rw (touches_removals types (lasts os) t)
    (by_test (ltb t types)
    (λ e. rw e (last_set_or_removed os t))
    (λ e. let un = touches_typed os g t (ltb-false t types e) in rw (e, un) (not_set os t un)))

-- ---- the two halves of demand 3: equal effects need equal folds, and the fold has the effect. They are the first to open `fold_all`

pub fold_same : (a b : List Op) → ((t : ℕ) → t < types → touches a t ≡ touches b t) → sets_of (lasts a) ≡ sets_of (lasts b) → fold_all a ≡ fold_all b
unfolding fold_all
fold_same a b h e =
    let removed = removals_same (lasts a) (lasts b) types (λ t l. removed_is a t ∙ rw (h t l, e) (sym (removed_is b t))) in
    cc

run_shape : (os : List Op) → Typed os → (cs : List Content) → run_all (shape os) cs ≡ run_all os cs
run_shape os g cs = run_is (shape os) cs ∙ rw (shape_touches os g, shape_sets os) (sym (run_is os cs))

-- a fold has the effect of its list
pub run_fold : (os : List Op) → Typed os → (cs : List Content) → run_all (fold_all os) cs ≡ run_all os cs
unfolding fold_all
run_fold os g cs = run_shape os g cs

-- ---- what else is so of a fold

pub every_fold : (P : Op → Type 0) (os : List Op) → ((t : ℕ) → t < types → P (remove t)) → Every P os → Every P (fold_all os)
unfolding fold_all
every_fold P os r h = every_shape P os r h

fold_sets : (os : List Op) → sets_of (lasts (fold_all os)) ≡ sets_of (lasts os)
unfolding fold_all
fold_sets os = shape_sets os

fold_touches : (os : List Op) → Typed os → touches (fold_all os) ≡ touches os
unfolding fold_all
fold_touches os g = shape_touches os g

typed_fold : (os : List Op) → Typed os → Typed (fold_all os)
unfolding about
typed_fold os g = every_fold (λ (o : Op). about o < types) os (λ t l. l) g

pub fold_fold : (os : List Op) → Typed os → fold_all (fold_all os) ≡ fold_all os
fold_fold os g = fold_same (fold_all os) os (λ t l. rw (fold_touches os g)) (fold_sets os)

-- two lists may be folded before they are put together
pub fold_two : (a b : List Op) → Typed a → Typed b → fold_all (fold_all a ++ fold_all b) ≡ fold_all (a ++ b)
fold_two a b g h =
    fold_same (fold_all a ++ fold_all b) (a ++ b)
    (λ t l. touches_append (fold_all a) (fold_all b) t ∙ rw (fold_touches a g, fold_touches b h) (sym (touches_append a b t)))
    (sets_append (fold_all a) (fold_all b) ∙ rw (fold_touches b h, fold_sets a, fold_sets b) (sym (sets_append a b)))

fold_left : (a b : List Op) → Typed a → Typed b → fold_all (fold_all a ++ b) ≡ fold_all (a ++ b)
fold_left a b g h = sym (fold_two (fold_all a) b (typed_fold a g) h) ∙ rw (fold_fold a g) (fold_two a b g h)

fold_right : (a b : List Op) → Typed a → Typed b → fold_all (a ++ fold_all b) ≡ fold_all (a ++ b)
fold_right a b g h = sym (fold_two a (fold_all b) g (typed_fold b h)) ∙ rw (fold_fold b h) (fold_two a b g h)

-- and of three, any two neighbours
pub fold_three : (a b c : List Op) → Typed a → Typed b → Typed c → fold_all (fold_all (a ++ b) ++ c) ≡ fold_all (a ++ fold_all (b ++ c))
fold_three a b c g h k =
    fold_left (a ++ b) c (every_append _ a b g h) k ∙ rw append_assoc (sym (fold_right a (b ++ c) g (every_append _ b c h k)))
