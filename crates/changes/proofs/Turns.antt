-- What a turn of a loop over the operations adds: to the table of marks, and to what the marks choose.
-- Assumes nothing.
use mathlib.Core.Path.{◌≡◌, refl, sym, ap, ◌∙◌}
use mathlib.Core.Bool.{true, false}
use mathlib.Core.List.{List, [], ◌∷◌}
use Prim.Native.Nat.{ℕ, ◌+◌, ◌≤◌, ◌<◌}
use native.Mathlib.Omega.{arith}
use lib.Dec.{eqb}
use lib.ListN.{length, get_or, set, length-set}
use lib.Seq.{get_or-set_same, get_or-set_other}
use borrow.Author.Tests.{eqb-true, eqb-false, eq-eqb, ne_eqb}
use Rattle.laws.proofs.Tests.{by_test}
use Rattle.tlv.specs.Entries.{Content, content}
use Rattle.change_lists.specs.Operations as op
use Rattle.change_lists.specs.Operations.{Op, OpAt, op_at, ops_of}
use Rattle.change_folds.specs.Fold.{about}
use Rattle.changes.specs.Loops.{shifted, ops_after, mark_of, last_mark, Marked, set_by, chosen}
use Rattle.change_lists.specs.Walk.{as_op}
use Rattle.change_lists.specs.declared.walk.Operation.{Operation}
use Rattle.change_lists.specs.declared.walk.Operation.TheVariants as o
use Rattle.change_lists.proofs.Fits.{Fit, least}
use Rattle.tlv_writing.specs.Encode.{encode_all}
use Rattle.tlv_writing.proofs.Encodes.{size_bound}
use Rattle.changes.proofs.Writes.{all_length}

-- ---- the table of marks: what the operations os that are left leave in marks is what all leave in table

pub record Going (marks table : List ℕ) (base : ℕ) (os all : List OpAt) : Type 0 where
  pub full : length marks ≡ 256
  pub is : (t : ℕ) → t < 256 → last_mark t (get_or marks t 0) (shifted base os) ≡ last_mark t (get_or table t 0) all

pub going_start : (table : List ℕ) (base : ℕ) (s : List ℕ) → length table ≡ 256 → Going table table base (ops_of s).ops (ops_after base s)
unfolding ops_after
going_start table base s h = record { full = h; is = λ t l. refl }

pub going_end : (marks table : List ℕ) (base : ℕ) (all : List OpAt) → Going marks table base [] all → Marked marks table all
unfolding last_mark shifted
going_end marks table base all g = record { full = g.full; is = g.is }

module _ (t best p : ℕ) (x : Op) (os : List OpAt) where
  mark_hit : eqb (about x) t ≡ true → last_mark t best (op_at p x ∷ os) ≡ last_mark t (mark_of p x) os
  unfolding last_mark
  mark_hit e = rw e

  mark_miss : eqb (about x) t ≡ false → last_mark t best (op_at p x ∷ os) ≡ last_mark t best os
  unfolding last_mark
  mark_miss e = rw e

module _ (marks table : List ℕ) (base p : ℕ) (os all : List OpAt) where
  going_more : (x : Op) (t : ℕ) → Going marks table base (op_at p x ∷ os) all → about x ≡ t → t < 256
      → Going (set marks t (mark_of (base + p) x)) table base os all
  unfolding shifted
  going_more x t g a h = record {
    full = length-set marks t (mark_of (base + p) x) ∙ g.full;
    is = λ u l.
        let was = g.is u l in
        by_test (eqb t u)
        (λ f.
        let q : t ≡ u = eqb-true t u f in
        let w = get_or-set_same marks t (mark_of (base + p) x) 0 (omega (arith, g.full)) in
        ap (λ (n : ℕ). last_mark u n (shifted base os)) (ap (λ (n : ℕ). get_or (set marks t (mark_of (base + p) x)) n 0) (sym q) ∙ w)
        ∙ sym (mark_hit u _ (base + p) x _ (rw a f)) ∙ was)
        (λ f.
        ap (λ (n : ℕ). last_mark u n (shifted base os)) (get_or-set_other marks t u (mark_of (base + p) x) 0 (λ z. eqb-false t u f (sym z)))
        ∙ sym (mark_miss u _ (base + p) x _ (rw a f)) ∙ was);
  }

  pub going_set : (t : ℕ) (v : List ℕ) → Going marks table base (op_at p (op.set (content t v)) ∷ os) all → t < 256
      → Going (set marks t (base + p + 2)) table base os all
  unfolding about mark_of
  going_set t v g h = going_more (op.set (content t v)) t g refl h

  pub going_removal : (t : ℕ) → Going marks table base (op_at p (op.remove t) ∷ os) all → t < 256 → Going (set marks t 1) table base os all
  unfolding about mark_of
  going_removal t g h = going_more (op.remove t) t g refl h

-- ---- what the marks choose of the operations that are left

abbrev pub chosen_of : (marks : List ℕ) → (base : ℕ) → List OpAt → List Content
chosen_of m base os = chosen m (shifted base os)

module _ (m : List ℕ) (base : ℕ) where
  pub chosen_all : (s : List ℕ) → chosen_of m base (ops_of s).ops ≡ chosen m (ops_after base s)
  unfolding ops_after
  chosen_all s = refl

  pub chosen_none : chosen_of m base [] ≡ []
  unfolding chosen shifted
  chosen_none = refl

  module _ (os : List OpAt) where
    pub chosen_other : (x : Operation) → ((p t : ℕ) (v : _) → x ≡ o.Set p t v → ⊥) → chosen_of m base (as_op x ∷ os) ≡ chosen_of m base os
    unfolding chosen shifted set_by
    chosen_other (o.Set p t v) never = absurd (never p t v refl)
    chosen_other (o.Remove p t) never = refl

    module _ (p t : ℕ) (v : List ℕ) where
      pub chosen_set : get_or m t 0 ≡ base + p + 2 → chosen_of m base (op_at p (op.set (content t v)) ∷ os) ≡ content t v ∷ chosen_of m base os
      unfolding chosen shifted set_by
      chosen_set k = simp (eq-eqb _ _ k)

      pub chosen_not : (get_or m t 0 ≡ base + p + 2 → ⊥) → chosen_of m base (op_at p (op.set (content t v)) ∷ os) ≡ chosen_of m base os
      unfolding chosen shifted set_by
      chosen_not k = simp (ne_eqb _ _ k)

  -- they take no more bytes than the operations, which have a mark and a header each, and are no more than those
  abbrev Within : (lo hi : ℕ) → List OpAt → Type 0
  Within lo hi os = (lo + length (encode_all (chosen_of m base os)) ≤ hi) × (lo + length (chosen_of m base os) ≤ hi)

  within_turn : (lo hi p : ℕ) (x : Op) (os : List OpAt) → lo ≤ p → Within (p + least x) hi os → Within lo hi (op_at p x ∷ os)
  unfolding chosen shifted set_by
  within_turn lo hi p (op.remove t) os l go = omega (arith, go)
  within_turn lo hi p (op.set c) os l go =
      by_test (eqb (get_or m c.ty 0) (base + p + 2))
      (λ e.
      let more = chosen_set os p c.ty c.value (eqb-true _ _ e) in
      omega (arith, go, size_bound (length c.value), all_length c _ _ more, ap length more))
      (λ e.
      let skip = chosen_not os p c.ty c.value (eqb-false _ _ e) in
      omega (arith, go, ap length skip, ap (λ cs. length (encode_all cs)) skip))

  chosen_within : (lo hi : ℕ) (os : List OpAt) → Fit lo hi os → Within lo hi os
  unfolding chosen shifted encode_all
  chosen_within lo hi [] f = (omega arith, omega arith)
  chosen_within lo hi (x ∷ os) f = within_turn lo hi x.place x.op os f.0 (chosen_within (x.place + least x.op) hi os f.1)

  pub chosen_bound : (hi : ℕ) (os : List OpAt) → Fit 0 hi os → (length (encode_all (chosen_of m base os)) ≤ hi) × (length (chosen_of m base os) ≤ hi)
  chosen_bound hi os f = omega (arith, chosen_within 0 hi os f)
