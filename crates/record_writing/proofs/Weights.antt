-- Entries of a payload by weight: a field for each type that is no longer than the type's last value, and all lists, weigh no more than the payload. A weight
-- is of a value's length: the bytes of its entry, or 1 for each.
-- Assumes nothing.
use mathlib.Core.Path.{◌≡◌, refl, sym, ap, ◌∙◌}
use mathlib.Core.Bool.{true}
use mathlib.Core.List.{List, [], ◌∷◌, ◌++◌}
use Prim.Native.Nat.{ℕ, suc, ◌+◌, ◌≤◌}
use native.Mathlib.Omega.{arith}
use lib.ListN.{length}
use lib.Dec.{eqb, leb}
use borrow.Author.Tests.{leb-true, le-leb, lt-leb, eqb-true}
use Rattle.refusal.specs.Sizes.{most_short}
use Rattle.refusal.specs.Every.{Every}
use Rattle.refusal.specs.Answer.{pick, Answer, given, absent, refused}
use Rattle.laws.proofs.Tests.{by_test}
use Rattle.laws.proofs.Bits.{both}
use Rattle.tlv.specs.Entries.{Content}
use Rattle.tlv_writing.specs.Encode.{size_of, encode_all}
use Rattle.tlv_writing.proofs.Round.{length_all}
use Rattle.record_writing.specs.Values.{Field, entry_for, present}
use Rattle.record_writing.proofs.Last.{last_in, all_in}
use Rattle.record_writing.proofs.Form.{rises}

-- of all entries, of those of a type, of those from a type on, of values, and of what is given
unfoldable pub weight : (ℕ → ℕ) → List Content → ℕ
weight w [] = 0
weight w (c ∷ cs) = w (length c.value) + weight w cs

unfoldable pub share : (ℕ → ℕ) → (ty : ℕ) → List Content → ℕ
share w t [] = 0
share w t (c ∷ cs) = pick (eqb c.ty t) (w (length c.value)) 0 + share w t cs

unfoldable onward : (ℕ → ℕ) → (ty : ℕ) → List Content → ℕ
onward w n [] = 0
onward w n (c ∷ cs) = pick (leb n c.ty) (w (length c.value)) 0 + onward w n cs

unfoldable pub values_weight : (ℕ → ℕ) → List (List ℕ) → ℕ
values_weight w [] = 0
values_weight w (x ∷ xs) = w (length x) + values_weight w xs

unfoldable pub one : (ℕ → ℕ) → Answer (List ℕ) → ℕ
one w (given x) = w (length x)
one w absent = 0
one w (refused n p i) = 0

module _ (w : ℕ → ℕ) where
  pub weight_append : (xs ys : List Content) → weight w (xs ++ ys) ≡ weight w xs + weight w ys
  unfolding weight
  weight_append [] ys = omega arith
  weight_append (x ∷ xs) ys = omega (arith, weight_append xs ys)

  entry_weight : (t : ℕ) (a : Answer (List ℕ)) → weight w (entry_for t a) ≡ one w a
  unfolding weight entry_for one
  entry_weight t (given x) = omega arith
  entry_weight t absent = refl
  entry_weight t (refused n p i) = refl

  pub all_weight : (t : ℕ) (cs : List Content) → values_weight w (all_in t cs) ≡ share w t cs
  unfolding values_weight all_in share
  all_weight t [] = refl
  all_weight t (c ∷ cs) = by_test (eqb c.ty t) (λ e. rw e (ap (λ (n : ℕ). w (length c.value) + n) (all_weight t cs))) (λ e. rw e (omega (arith, all_weight t cs)))

  last_weight : (t : ℕ) (cs : List Content) (best : Answer (List ℕ)) → one w (last_in t best cs) ≤ one w best + share w t cs
  unfolding last_in share one
  last_weight t [] best = omega arith
  last_weight t (c ∷ cs) best =
      by_test (eqb c.ty t)
      (λ e. rw e (omega (arith, last_weight t cs (given c.value))))
      (λ e. rw e (omega (arith, last_weight t cs best)))

  onward_all : (cs : List Content) → onward w 0 cs ≤ weight w cs
  unfolding onward weight
  onward_all [] = omega arith
  onward_all (c ∷ cs) = rw (le-leb 0 c.ty (omega arith)) (omega (arith, onward_all cs))

  onward_split : (n t : ℕ) (cs : List Content) → n ≤ t → share w t cs + onward w (suc t) cs ≤ onward w n cs
  unfolding onward share
  onward_split n t [] h = omega arith
  onward_split n t (c ∷ cs) h =
      let go = onward_split n t cs h in
      by_test (eqb c.ty t)
      (λ e.
      let same = eqb-true c.ty t e in
      rw (e, lt-leb (suc t) c.ty (omega arith), le-leb n c.ty (omega arith)) (omega arith))
      (λ e. by_test (leb (suc t) c.ty)
      (λ f. rw (e, f, le-leb n c.ty (omega (arith, leb-true (suc t) c.ty f))) (omega arith))
      (λ f. rw (e, f) (omega arith)))

  nothing : (weight w [] ≡ 0) × (one w absent ≡ 0)
  unfolding weight one
  nothing = (refl, refl)

  -- a field that weighs no more than the last value of its type
  abbrev pub Light : List Content → Field → Type 0
  Light cs f = one w f.value ≤ one w (last_in f.ty absent cs)

  fields_onward : (cs : List Content) (fs : List Field) (n : ℕ) → rises n fs ≡ true → Every (Light cs) fs → weight w (present fs) + share w 30 cs ≤ onward w n cs
  unfolding rises present
  fields_onward cs [] n h l = omega (arith, onward_split n 30 cs (leb-true n 30 h), nothing.0)
  fields_onward cs (f ∷ fs) n h l =
      let b = both (leb n f.ty) (rises (suc f.ty) fs) h in
      omega (arith, weight_append (entry_for f.ty f.value) (present fs), entry_weight f.ty f.value, l.0, last_weight f.ty cs absent, nothing.1, onward_split n f.ty cs (leb-true n f.ty b.0), fields_onward cs fs (suc f.ty) b.1 l.1)

  pub fields_weight : (cs : List Content) (fs : List Field) → rises 0 fs ≡ true → Every (Light cs) fs → weight w (present fs) + share w 30 cs ≤ weight w cs
  fields_weight cs fs h l = omega (arith, fields_onward cs fs 0 h l, onward_all cs)

-- ---- the two weights
pub size_weight : (cs : List Content) → weight size_of cs ≡ length (encode_all cs)
unfolding weight encode_all
size_weight [] = refl
size_weight (c ∷ cs) = ap (λ (n : ℕ). size_of (length c.value) + n) (size_weight cs) ∙ sym (length_all c cs)

abbrev pub each : ℕ → ℕ
each n = 1

pub count_weight : (cs : List Content) → weight each cs ≡ length cs
unfolding weight
count_weight [] = refl
count_weight (c ∷ cs) = omega (arith, count_weight cs)

pub size_more : (m n : ℕ) → m ≤ n → size_of m ≤ size_of n
unfolding size_of
size_more m n h =
    by_test (leb n most_short)
    (λ e. rw (e, le-leb m most_short (omega (arith, leb-true n most_short e))) (omega arith))
    (λ e. by_test (leb m most_short) (λ f. rw (e, f) (omega arith)) (λ f. rw (e, f) (omega arith)))
