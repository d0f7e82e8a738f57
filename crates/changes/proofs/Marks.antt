-- A table of marks and the operations that left it: the laws of `last_mark`, and that the marks choose each type's last operation.
-- Assumes nothing.
use mathlib.Core.Path.{◌≡◌, refl, sym, ap, ◌∙◌}
use mathlib.Core.Bool.{true, false, not, or-true}
use mathlib.Core.List.{List, [], ◌∷◌, ◌++◌}
use Prim.Native.Nat.{ℕ, zero, suc, ◌+◌, ◌-◌, ◌≤◌, ◌<◌}
use native.Mathlib.Omega.{arith}
use lib.Dec.{eqb, ltb}
use lib.ListN.{length, get_or, replicate, get_or-replicate, length-drop, get_or-eq_default}
use borrow.Author.Tests.{eqb-true, eq-eqb, ne_eqb, ltb-true, ltb-false}
use Rattle.refusal.specs.Answer.{pick}
use Rattle.refusal.specs.Every.{Bytes}
use Rattle.laws.proofs.Tests.{by_test}
use Rattle.tlv.specs.Entries.{Content}
use Rattle.change_lists.specs.Operations.{Op, set, remove, FirstOp, nothing, bad, operation, first_op, OpAt, Listed, op_step, ops_in, ops_of, bare}
use Rattle.change_folds.specs.Fold.{about, touches, lasts, sets_of, removes, removals_below, types}
use Rattle.changes.specs.Loops.{shifted, ops_after, mark_of, last_mark, Marked, spared, set_by, chosen, gone_below}
use Rattle.change_folds.proofs.Lasts.{without, puts}
use Rattle.change_folds.proofs.Folds.{Typed, touches_typed}
use Rattle.change_lists.proofs.Reading.{TakenOp, op_taken, read_good}
use Rattle.change_folds.proofs.Limits.{typed}

-- ---- the places of operations ascend, from lo on and up to hi

abbrev pub Between : (lo hi : ℕ) → List OpAt → Type 0
Between lo hi [] = lo ≤ hi
Between lo hi (o ∷ os) = (lo ≤ o.place) × Between (suc o.place) hi os

between_from : (lo mid hi : ℕ) (os : List OpAt) → lo ≤ mid → Between mid hi os → Between lo hi os
between_from lo mid hi [] h b = omega arith
between_from lo mid hi (o ∷ os) h b = (omega (arith, b.0), b.1)

between_append : (lo mid hi : ℕ) (a b : List OpAt) → Between lo mid a → Between mid hi b → Between lo hi (a ++ b)
between_append lo mid hi [] b g h = between_from lo mid hi b g h
between_append lo mid hi (o ∷ a) b g h = (g.0, between_append (suc o.place) mid hi a b g.1 h)

between_shifted : (base lo hi : ℕ) (os : List OpAt) → Between lo hi os → Between (base + lo) (base + hi) (shifted base os)
unfolding shifted
between_shifted base lo hi [] b = omega arith
between_shifted base lo hi (o ∷ os) b = (
  omega (arith, b.0),
  between_from (suc (base + o.place)) (base + suc o.place) (base + hi) (shifted base os) (omega arith)
      (between_shifted base (suc o.place) hi os b.1),
)

step_between : (at : ℕ) (s : List ℕ) (x : FirstOp) (next : ℕ → List ℕ → Listed) → TakenOp s x
    → ((n : ℕ) (r : List ℕ) → Between n (n + length r) (next n r).ops) → Between at (at + length s) (op_step at s x next).ops
unfolding op_step
step_between at s nothing next t h = omega arith
step_between at s bad next t h = omega arith
step_between at s (operation o rest) next t h =
    let l : length rest ≡ length s - t.size = rw t.left (length-drop t.size s) in
    let k : at + (length s - length rest) ≡ at + t.size = omega (arith, t.inside) in
    let e : at + t.size + length rest ≡ at + length s = omega (arith, t.inside) in (
      omega arith,
      between_from (suc at) (at + t.size) (at + length s) (next (at + (length s - length rest)) rest).ops (omega (arith, t.some))
          (rw k (rw e at (h (at + t.size) rest))),
    )

ops_between : (fuel at : ℕ) (s : List ℕ) → Between at (at + length s) (ops_in fuel at s).ops
unfolding ops_in
ops_between zero at s = omega arith
ops_between (suc k) at s = step_between at s (first_op s) (λ n r. ops_in k n r) (op_taken s) (λ n r. ops_between k n r)

-- ---- operations of lists one after the other

pub bare_append : (a b : List OpAt) → bare (a ++ b) ≡ bare a ++ bare b
unfolding bare
bare_append [] b = refl
bare_append (o ∷ a) b = ap (λ r. o.op ∷ r) (bare_append a b)

bare_shifted : (base : ℕ) (os : List OpAt) → bare (shifted base os) ≡ bare os
unfolding bare shifted
bare_shifted base [] = refl
bare_shifted base (o ∷ os) = ap (λ r. o.op ∷ r) (bare_shifted base os)

pub bare_after : (base : ℕ) (s : List ℕ) → bare (ops_after base s) ≡ bare (ops_of s).ops
unfolding ops_after
bare_after base s = bare_shifted base (ops_of s).ops

pub between_after : (base : ℕ) (s : List ℕ) → Between base (base + length s) (ops_after base s)
unfolding ops_after ops_of
between_after base s =
    let z : base + 0 ≡ base = omega arith in
    let q : 0 + length s ≡ length s = omega arith in
    rw z at (between_shifted base 0 (length s) (ops_in (length s) 0 s).ops (rw q at (ops_between (length s) 0 s)))

pub both_between : (a b : List ℕ) → Between 0 (length a + length b) (ops_after 0 a ++ ops_after (length a) b)
both_between a b =
    let z : 0 + length a ≡ length a = omega arith in
    between_append 0 (length a) (length a + length b) (ops_after 0 a) (ops_after (length a) b) (rw z at (between_after 0 a)) (between_after (length a) b)

pub typed_after : (base : ℕ) (s : List ℕ) → Bytes s → Typed (bare (ops_after base s))
typed_after base s o = rw (bare_after base s) (typed (bare (ops_of s).ops) (read_good s o).1)

set_by_append : (m : List ℕ) (p : ℕ) (x : Op) (cs ds : List Content) → set_by m p x cs ++ ds ≡ set_by m p x (cs ++ ds)
unfolding set_by
set_by_append m p (set c) cs ds = by_test (eqb (get_or m c.ty 0) (p + 2)) (λ e. rw e) (λ e. rw e)
set_by_append m p (remove t) cs ds = refl

pub chosen_append : (m : List ℕ) (a b : List OpAt) → chosen m (a ++ b) ≡ chosen m a ++ chosen m b
unfolding chosen
chosen_append m [] b = refl
chosen_append m (o ∷ a) b =
    ap (set_by m o.place o.op) (chosen_append m a b) ∙ sym (set_by_append m o.place o.op (chosen m a) (chosen m b))

-- ---- what stands at a type

mark_append : (t best : ℕ) (a b : List OpAt) → last_mark t best (a ++ b) ≡ last_mark t (last_mark t best a) b
unfolding last_mark
mark_append t best [] b = refl
mark_append t best (o ∷ a) b = mark_append t (pick (eqb (about o.op) t) (mark_of o.place o.op) best) a b

-- what stood before only matters where no operation is about the type
mark_touched : (t best : ℕ) (os : List OpAt) → touches (bare os) t ≡ true → last_mark t best os ≡ last_mark t 0 os
unfolding last_mark touches bare
mark_touched t best [] e = absurd (let z : ◌≡◌ {A = ℕ} 0 1 = cc in omega arith)
mark_touched t best (o ∷ os) e =
    by_test (eqb (about o.op) t) (λ f. rw f) (λ f. rw f (mark_touched t best os (rw f at e)))

mark_untouched : (t best : ℕ) (os : List OpAt) → touches (bare os) t ≡ false → last_mark t best os ≡ best
unfolding last_mark touches bare
mark_untouched t best [] e = refl
mark_untouched t best (o ∷ os) e =
    by_test (eqb (about o.op) t)
    (λ f. absurd (let n = rw f at e in let z : ◌≡◌ {A = ℕ} 0 1 = cc in omega arith))
    (λ f. rw f (mark_untouched t best os (rw f at e)))

mark_some : (p : ℕ) (x : Op) → 1 ≤ mark_of p x
unfolding mark_of
mark_some p (set c) = omega arith
mark_some p (remove t) = omega arith

stays_some : (t best : ℕ) (os : List OpAt) → 1 ≤ best → 1 ≤ last_mark t best os
unfolding last_mark
stays_some t best [] h = h
stays_some t best (o ∷ os) h =
    by_test (eqb (about o.op) t)
    (λ f. rw f (stays_some t (mark_of o.place o.op) os (mark_some o.place o.op))) (λ f. rw f (stays_some t best os h))

touched_some : (t best : ℕ) (os : List OpAt) → touches (bare os) t ≡ true → 1 ≤ last_mark t best os
unfolding last_mark touches bare
touched_some t best [] e = absurd (let z : ◌≡◌ {A = ℕ} 0 1 = cc in omega arith)
touched_some t best (o ∷ os) e =
    by_test (eqb (about o.op) t)
    (λ f. rw f (stays_some t (mark_of o.place o.op) os (mark_some o.place o.op))) (λ f. rw f (touched_some t best os (rw f at e)))

-- a set's mark is left by no operation after its place
mark_other : (p : ℕ) (x : Op) (q : ℕ) → q < p → mark_of p x ≡ q + 2 → ⊥
unfolding mark_of
mark_other p (set c) q h e = omega arith
mark_other p (remove t) q h e = omega arith

mark_after : (t best q lo hi : ℕ) (os : List OpAt) → q < lo → Between lo hi os → (best ≡ q + 2 → ⊥) → last_mark t best os ≡ q + 2 → ⊥
unfolding last_mark
mark_after t best q lo hi [] h b n = n
mark_after t best q lo hi (o ∷ os) h b n =
    by_test (eqb (about o.op) t)
    (λ f. rw f (mark_after t (mark_of o.place o.op) q (suc o.place) hi os (omega (arith, b.0)) b.1 (mark_other o.place o.op q (omega (arith, b.0)))))
    (λ f. rw f (mark_after t best q (suc o.place) hi os (omega (arith, b.0)) b.1 n))

-- ---- a table that the operations of l left, where no mark stood before

pub record Marks (m : List ℕ) (l : List OpAt) : Type 0 where
  pub full : length m ≡ 256
  pub is : (t : ℕ) → t < 256 → get_or m t 0 ≡ last_mark t 0 l

pub marks_one : (m : List ℕ) (a : List OpAt) → Marked m (replicate 256 0) a → Marks m a
marks_one m a g = record { full = g.full; is = λ t h. g.is t h ∙ ap (λ (b : ℕ). last_mark t b a) (get_or-replicate {A = ℕ} 256 t 0 0 h) }

pub marks_two : (k m : List ℕ) (a b : List OpAt) → Marked k (replicate 256 0) a → Marked m k b → Marks m (a ++ b)
marks_two k m a b f g = record {
  full = g.full;
  is = λ t h. g.is t h ∙ ap (λ (x : ℕ). last_mark t x b) ((marks_one k a f).is t h) ∙ sym (mark_append t 0 a b);
}

-- ---- removals

removes_step : (t p : ℕ) (x : Op) (os : List OpAt) → removes (lasts (bare os)) t ≡ eqb (last_mark t 0 os) 1
    → removes (lasts (x ∷ bare os)) t ≡ eqb (last_mark t (pick (eqb (about x) t) (mark_of p x) 0) os) 1
unfolding lasts removes about mark_of
removes_step t p (set c) os ih =
    by_test (eqb c.ty t)
    (λ e.
    let same = ap (touches (bare os)) (eqb-true c.ty t e) in
    by_test (touches (bare os) t)
    (λ f. rw (e, same ∙ f, mark_touched t (p + 2) os f) ih)
    (λ f. rw (e, same ∙ f, mark_untouched t (p + 2) os f) (ih ∙ rw (mark_untouched t 0 os f, ne_eqb (p + 2) 1 (λ z. omega arith)) refl)))
    (λ e. rw e (by_test (touches (bare os) c.ty) (λ f. rw f ih) (λ f. rw f ih)))
removes_step t p (remove u) os ih =
    by_test (eqb u t)
    (λ e.
    let same = ap (touches (bare os)) (eqb-true u t e) in
    by_test (touches (bare os) t)
    (λ f. rw (e, same ∙ f, mark_touched t 1 os f) ih)
    (λ f. rw (e, same ∙ f, mark_untouched t 1 os f) (rw e refl)))
    (λ e. rw e (by_test (touches (bare os) u) (λ f. rw f ih) (λ f. rw (f, e) ih)))

removes_is : (t : ℕ) (os : List OpAt) → removes (lasts (bare os)) t ≡ eqb (last_mark t 0 os) 1
unfolding bare last_mark lasts removes
removes_is t [] = refl
removes_is t (o ∷ os) = removes_step t o.place o.op os (removes_is t os)

-- ---- sets

puts_step : (m : List ℕ) (p hi : ℕ) (x : Op) (os : List OpAt) → Between (suc p) hi os
    → (touches (bare os) (about x) ≡ true → get_or m (about x) 0 ≡ last_mark (about x) 0 os)
    → (touches (bare os) (about x) ≡ false → get_or m (about x) 0 ≡ mark_of p x)
    → set_by m p x (puts (sets_of (lasts (bare os)))) ≡ puts (sets_of (lasts (x ∷ bare os)))
unfolding set_by puts sets_of lasts about mark_of
puts_step m p hi (set c) os b j k =
    by_test (touches (bare os) c.ty)
    (λ f. rw (f, ne_eqb (get_or m c.ty 0) (p + 2) (λ z. mark_after c.ty 0 p (suc p) hi os (omega arith) b (λ q. omega arith) (sym (j f) ∙ z))) refl)
    (λ f. rw (f, eq-eqb (get_or m c.ty 0) (p + 2) (k f)) refl)
puts_step m p hi (remove t) os b j k = by_test (touches (bare os) t) (λ f. rw f) (λ f. rw f)

puts_is : (m : List ℕ) (lo hi : ℕ) (os : List OpAt) → Between lo hi os → Typed (bare os)
    → ((t : ℕ) → t < 256 → touches (bare os) t ≡ true → get_or m t 0 ≡ last_mark t 0 os) → chosen m os ≡ puts (sets_of (lasts (bare os)))
unfolding chosen bare last_mark touches puts sets_of lasts types
puts_is m lo hi [] b g h = refl
puts_is m lo hi (o ∷ os) b g h =
    let x = about o.op in
    let later : (t : ℕ) → t < 256 → touches (bare os) t ≡ true → get_or m t 0 ≡ last_mark t 0 os =
    λ t l e. h t l (rw (e, or-true)) ∙ mark_touched t _ os e in
    ap (set_by m o.place o.op) (puts_is m (suc o.place) hi os b.1 g.1 later)
    ∙ puts_step m o.place hi o.op os b.1 (λ e. later x g.0 e)
    (λ e. h x g.0 (rw (eq-eqb x x refl)) ∙ rw (eq-eqb x x refl) (mark_untouched x _ os e))

-- ---- what the marks choose

module _ (m : List ℕ) (l : List OpAt) (g : Marks m l) (fit : Typed (bare l)) where
  pub chosen_is : (lo hi : ℕ) → Between lo hi l → chosen m l ≡ puts (sets_of (lasts (bare l)))
  chosen_is lo hi b = puts_is m lo hi l b fit (λ t h e. g.is t h)

  gone_below_lem : (n : ℕ) → n ≤ 256 → gone_below n m ≡ removals_below n (lasts (bare l))
  unfolding gone_below removals_below
  gone_below_lem zero h = refl
  gone_below_lem (suc n) h = rw (gone_below_lem n (omega arith), g.is n (omega arith), removes_is n l) refl

  pub gone_is : gone_below 256 m ≡ removals_below types (lasts (bare l))
  unfolding types
  gone_is = gone_below_lem 256 (omega arith)

  zero_is : (t : ℕ) → eqb (get_or m t 0) 0 ≡ not (touches (bare l) t)
  unfolding types
  zero_is t =
      by_test (ltb t 256)
      (λ e.
      let at = g.is t (ltb-true t 256 e) in
      by_test (touches (bare l) t)
      (λ f. rw (f, at) (ne_eqb (last_mark t 0 l) 0 (λ z. omega (arith, touched_some t 0 l f))))
      (λ f. rw (f, at, mark_untouched t 0 l f) refl))
      (λ e.
      let un = touches_typed (bare l) fit t (ltb-false t 256 e) in
      let out : length m ≤ t = omega (arith, g.full, ltb-false t 256 e) in
      rw (un, get_or-eq_default m 0 {n = t} out) refl)

  pub spared_is : (cs : List Content) → spared m cs ≡ without (touches (bare l)) cs
  unfolding spared without
  spared_is [] = refl
  spared_is (c ∷ cs) = by_test (touches (bare l) c.ty) (λ f. rw (zero_is c.ty, f) (spared_is cs)) (λ f. rw (zero_is c.ty, f) (ap (λ r. c ∷ r) (spared_is cs)))
