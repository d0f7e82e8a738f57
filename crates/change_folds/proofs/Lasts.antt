-- Each type's last operation: in two lists one after the other, as a set or a removal and never both, and as what a run leaves.
-- Assumes nothing.
use mathlib.Core.Path.{◌≡◌, refl, sym, ap, ◌∙◌}
use mathlib.Core.Bool.{Bool, true, false, not, ◌&&◌, ◌||◌, or_assoc, or-true, and-false}
use mathlib.Core.List.{List, [], ◌∷◌, ◌++◌, append_assoc, append-nil}
use Prim.Native.Nat.{ℕ}
use lib.Dec.{eqb}
use borrow.Author.Tests.{eqb-true, eqb-false, eq-eqb, ne_eqb}
use Rattle.refusal.specs.Answer.{pick}
use Rattle.laws.proofs.Tests.{by_test}
use Rattle.tlv.specs.Entries.{Content}
use Rattle.tlv_rewriting.specs.Rewrite.{keeps_of, kept, set_last}
use Rattle.tlv_rewriting.specs.declared.Choice.TheVariants.{Without}
use Rattle.change_lists.specs.Operations.{Op, set, remove}
use Rattle.change_folds.specs.Run.{perform, run_all}
use Rattle.change_folds.specs.Fold.{about, touches, lasts, sets_of, removes}

-- the entries, and the operations, whose type does not pass the test
unfoldable pub without : (ℕ → Bool) → List Content → List Content
without p [] = []
without p (c ∷ cs) = pick (p c.ty) (without p cs) (c ∷ without p cs)

unfoldable pub others : (ℕ → Bool) → List Op → List Op
others p [] = []
others p (o ∷ os) = pick (p (about o)) (others p os) (o ∷ others p os)

-- what the sets among operations set
unfoldable pub puts : List Op → List Content
puts [] = []
puts (set c ∷ os) = c ∷ puts os
puts (remove t ∷ os) = puts os

-- ---- lists put together

pub touches_append : (a b : List Op) (t : ℕ) → touches (a ++ b) t ≡ touches a t || touches b t
unfolding touches
touches_append [] b t = refl
touches_append (o ∷ a) b t = rw (touches_append a b t) (sym (or_assoc (eqb (about o) t) (touches a t) (touches b t)))

pub lasts_append : (a b : List Op) → lasts (a ++ b) ≡ others (touches b) (lasts a) ++ lasts b
unfolding lasts others
lasts_append [] b = refl
lasts_append (o ∷ a) b =
    rw (touches_append a b (about o), lasts_append a b)
    (by_test (touches a (about o)) (λ e. rw e) (λ e. rw e (by_test (touches b (about o)) (λ f. rw f) (λ f. rw f))))

sets_both : (a b : List Op) → sets_of (a ++ b) ≡ sets_of a ++ sets_of b
unfolding sets_of
sets_both [] b = refl
sets_both (set c ∷ a) b = ap (λ r. set c ∷ r) (sets_both a b)
sets_both (remove t ∷ a) b = sets_both a b

sets_others : (p : ℕ → Bool) (os : List Op) → sets_of (others p os) ≡ others p (sets_of os)
unfolding sets_of others about
sets_others p [] = refl
sets_others p (set c ∷ os) = by_test (p c.ty) (λ e. rw e (sets_others p os)) (λ e. rw e (ap (λ r. set c ∷ r) (sets_others p os)))
sets_others p (remove t ∷ os) = by_test (p t) (λ e. rw e (sets_others p os)) (λ e. rw e (sets_others p os))

pub sets_append : (a b : List Op) → sets_of (lasts (a ++ b)) ≡ others (touches b) (sets_of (lasts a)) ++ sets_of (lasts b)
sets_append a b = rw (lasts_append a b, sets_both, sets_others)

removes_both : (a b : List Op) (t : ℕ) → removes (a ++ b) t ≡ removes a t || removes b t
unfolding removes
removes_both [] b t = refl
removes_both (set c ∷ a) b t = removes_both a b t
removes_both (remove u ∷ a) b t = rw (removes_both a b t) (sym (or_assoc (eqb u t) (removes a t) (removes b t)))

removes_others : (p : ℕ → Bool) (os : List Op) (t : ℕ) → removes (others p os) t ≡ removes os t && not (p t)
unfolding removes others about
removes_others p [] t = refl
removes_others p (set c ∷ os) t = by_test (p c.ty) (λ e. rw e (removes_others p os t)) (λ e. rw e (removes_others p os t))
removes_others p (remove u ∷ os) t =
    by_test (eqb u t)
    (λ e.
    let same = ap p (eqb-true u t e) in
    by_test (p t) (λ f. rw (same ∙ f, e, f) (removes_others p os t ∙ rw f (and-false (removes os t)))) (λ f. rw (same ∙ f, e, f)))
    (λ e. by_test (p u) (λ f. rw (f, e) (removes_others p os t)) (λ f. rw (f, e) (removes_others p os t)))

pub removes_append : (a b : List Op) (t : ℕ) → removes (lasts (a ++ b)) t ≡ (removes (lasts a) t && not (touches b t)) || removes (lasts b) t
removes_append a b t = rw (lasts_append a b, removes_both, removes_others)

-- ---- a type that is touched is set or removed, and by its last operation one of the two

-- an operation on a type that a later one is about
again : (o : Op) (os : List Op) (t : ℕ) → touches os (about o) ≡ true → touches (o ∷ os) t ≡ touches os t
unfolding touches
again o os t e = by_test (eqb (about o) t) (λ f. rw (f, ← eqb-true (about o) t f, e)) (λ f. rw f)

touches_lasts : (os : List Op) (t : ℕ) → touches (lasts os) t ≡ touches os t
unfolding touches lasts
touches_lasts [] t = refl
touches_lasts (o ∷ os) t = by_test (touches os (about o)) (λ e. rw e (touches_lasts os t ∙ sym (again o os t e))) (λ e. rw (e, touches_lasts os t))

set_or_removed : (os : List Op) (t : ℕ) → removes os t || touches (sets_of os) t ≡ touches os t
unfolding removes touches sets_of about
set_or_removed [] t = refl
set_or_removed (set c ∷ os) t = by_test (eqb c.ty t) (λ e. rw (e, or-true)) (λ e. rw e (set_or_removed os t))
set_or_removed (remove u ∷ os) t = rw (or_assoc, set_or_removed os t)

pub last_set_or_removed : (os : List Op) (t : ℕ) → removes (lasts os) t || touches (sets_of (lasts os)) t ≡ touches os t
last_set_or_removed os t = set_or_removed (lasts os) t ∙ touches_lasts os t

or_right : (a b : Bool) → a || b ≡ false → b ≡ false
or_right true b h = cc
or_right false b h = h

pub not_set : (os : List Op) (t : ℕ) → touches os t ≡ false → touches (sets_of (lasts os)) t ≡ false
not_set os t h = or_right (removes (lasts os) t) (touches (sets_of (lasts os)) t) (last_set_or_removed os t ∙ h)

pub removed_is : (os : List Op) (t : ℕ) → removes (lasts os) t ≡ touches os t && not (touches (sets_of (lasts os)) t)
unfolding removes touches lasts sets_of about
removed_is [] t = refl
removed_is (set c ∷ os) t =
    by_test (touches os c.ty) (λ e. rw e (removed_is os t ∙ rw (again (set c) os t e)))
    (λ e. rw e
    (by_test (eqb c.ty t) (λ f. rw f (removed_is os t ∙ rw (← eqb-true c.ty t f, e))) (λ f. rw f (removed_is os t))))
removed_is (remove u ∷ os) t =
    by_test (touches os u) (λ e. rw e (removed_is os t ∙ rw (again (remove u) os t e)))
    (λ e. rw e
    (by_test (eqb u t) (λ f. rw (f, not_set os t (rw (← eqb-true u t f) e))) (λ f. rw f (removed_is os t))))

-- ---- what a run leaves

without_none : (cs : List Content) → without (touches []) cs ≡ cs
unfolding without touches
without_none [] = refl
without_none (c ∷ cs) = ap (λ r. c ∷ r) (without_none cs)

without_append : (p : ℕ → Bool) (cs ds : List Content) → without p (cs ++ ds) ≡ without p cs ++ without p ds
unfolding without
without_append p [] ds = refl
without_append p (c ∷ cs) ds = by_test (p c.ty) (λ e. rw e (without_append p cs ds)) (λ e. rw e (ap (λ r. c ∷ r) (without_append p cs ds)))

without_kept : (p : ℕ → Bool) (t : ℕ) (cs : List Content) → without p (kept (Without t) cs) ≡ without (λ (u : ℕ). eqb t u || p u) cs
unfolding without kept keeps_of
without_kept p t [] = refl
without_kept p t (c ∷ cs) =
    by_test (eqb t c.ty)
    (λ e. rw (e, eq-eqb c.ty t (sym (eqb-true t c.ty e))) (without_kept p t cs))
    (λ e. rw (e, ne_eqb c.ty t (λ h. eqb-false t c.ty e (sym h)))
    (by_test (p c.ty) (λ f. rw f (without_kept p t cs)) (λ f. rw f (ap (λ r. c ∷ r) (without_kept p t cs)))))

-- the entries that no operation touches, then what the sets that are last set
pub run_is : (os : List Op) (cs : List Content) → run_all os cs ≡ without (touches os) cs ++ puts (sets_of (lasts os))
unfolding run_all perform set_last without touches about lasts sets_of puts
run_is [] cs = sym (append-nil _ ∙ without_none cs)
run_is (set c ∷ os) cs =
    run_is os (set_last c.ty c.value cs)
    ∙ rw (without_append, without_kept, append_assoc) (by_test (touches os c.ty) (λ e. rw e) (λ e. rw e))
run_is (remove t ∷ os) cs = run_is os (kept (Without t) cs) ∙ rw without_kept (by_test (touches os t) (λ e. rw e) (λ e. rw e))
