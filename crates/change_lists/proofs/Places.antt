-- What the code finds at a place of a list is what `first_op` finds in the bytes from there on, and what a turn of a loop over the
-- operations learns from it.
-- Assumes nothing.
use mathlib.Core.Path.{◌≡◌, refl, sym, ap, ◌∙◌, subst}
use mathlib.Core.Bool.{◌&&◌}
use mathlib.Core.List.{List, [], ◌∷◌}
use Prim.Native.Nat.{ℕ, ◌+◌, ◌-◌, ◌≤◌, ◌<◌}
use native.Mathlib.Omega.{arith}
use native.Mathlib.Nat.{add-zero}
use lib.ListN.{length, get_or, take, drop, length-drop}
use lib.Seq.{drop-drop, get_or-drop}
use lib.Dec.{leb, ltb, eqb}
use borrow.Author.Tests.{le-leb, lt-leb, lt-ltb, le-ltb, ltb-false, leb-true, leb-false, eqb-true}
use Rattle.laws.proofs.Tests.{by_test, pick_all}
use Rattle.tlv.specs.Entries.{First, none, cut, one, first, content, clean, cut_at}
use Rattle.tlv.specs.Place.{frame_at}
use Rattle.tlv.specs.declared.Frame.{Frame}
use Rattle.tlv.specs.declared.Frame.TheVariants as f
use Rattle.tlv.proofs.Walks.{Agree, frame_agrees, Inside, inside}
use Rattle.change_lists.specs.Operations.{set, remove, FirstOp, nothing, bad, operation, set_of, removal_of, first_op, op_at, Listed, ends_with, after, op_step}
use Rattle.change_lists.specs.Place.{set_at, op_frame_at}
use Rattle.change_lists.specs.declared.OpFrame.{OpFrame}
use Rattle.change_lists.specs.declared.OpFrame.TheVariants as o
use Rattle.change_lists.proofs.Reading.{ops_from, ops_step}

-- ---- an operation lies within the list, after its place

abbrev pub OpInside : List ℕ → ℕ → OpFrame → Type 0
OpInside s at o.End = length s ≤ at
OpInside s at o.Bad = at < length s
OpInside s at (o.Remove t) = at + 3 ≤ length s
OpInside s at (o.Set t a n) = (at + 4 ≤ a) × (a + n ≤ length s)

set_inside : (s : List ℕ) (at : ℕ) (g : Frame) → at < length s → Inside s (at + 2) g → OpInside s at (set_at g)
unfolding set_at
set_inside s at f.End h i = h
set_inside s at f.Cut h i = h
set_inside s at (f.Entry t a n) h i = (omega (arith, i.0), i.1)

pub op_inside : (s : List ℕ) (at : ℕ) → OpInside s at (op_frame_at s at)
unfolding op_frame_at
op_inside s at =
    pick_all (OpInside s at) (leb (length s) at) o.End _ (λ e. leb-true _ _ e) (λ e1.
    let some = leb-false _ _ e1 in
    pick_all (OpInside s at) (ltb (length s - at) 3) o.Bad _ (λ e2. some) (λ e2.
    pick_all (OpInside s at) (eqb (get_or s at 0) 83) _ _
    (λ e3. pick_all (OpInside s at) (eqb (get_or s (at + 1) 0) 69) (set_at (frame_at s (at + 2))) o.Bad
    (λ e4. set_inside s at (frame_at s (at + 2)) some (inside s (at + 2))) (λ e4. some))
    (λ e3. pick_all (OpInside s at) (eqb (get_or s at 0) 82) _ o.Bad
    (λ e4. pick_all (OpInside s at) (eqb (get_or s (at + 1) 0) 77) (o.Remove (get_or s (at + 2) 0)) o.Bad
    (λ e5. omega (arith, ltb-false)) (λ e5. some))
    (λ e4. some))))

-- ---- it is what stands first in the bytes from the place on

abbrev pub op_by : List ℕ → ℕ → OpFrame → FirstOp
op_by s at o.End = nothing
op_by s at o.Bad = bad
op_by s at (o.Remove t) = operation (remove t) (drop (at + 3) s)
op_by s at (o.Set t a n) = operation (set (content t (take n (drop a s)))) (drop (a + n) s)

set_agrees : (s : List ℕ) (at : ℕ) (g : Frame) (x : First) → Agree s (at + 2) g x → set_of x ≡ op_by s at (set_at g)
unfolding set_of set_at
set_agrees s at f.End none e = refl
set_agrees s at f.End cut e = refl
set_agrees s at f.End (one t h v r) e = absurd e
set_agrees s at f.Cut none e = refl
set_agrees s at f.Cut cut e = refl
set_agrees s at f.Cut (one t h v r) e = absurd e
set_agrees s at (f.Entry t a n) none e = absurd e
set_agrees s at (f.Entry t a n) cut e = absurd e
set_agrees s at (f.Entry t a n) (one t' h v r) e = rw (e.0, e.2, e.3)

module _ (s : List ℕ) (at : ℕ) where
  length_is : (d : List ℕ) → drop at s ≡ d → length s - at ≡ length d
  length_is d e = sym (length-drop at s) ∙ ap length e

  byte_is : (d : List ℕ) (k : ℕ) → drop at s ≡ d → get_or s (at + k) 0 ≡ get_or d k 0
  byte_is d k e = sym (get_or-drop at s k 0) ∙ ap (λ (l : List ℕ). get_or l k 0) e

  rest_is : (d : List ℕ) (k : ℕ) → drop at s ≡ d → drop k d ≡ drop (at + k) s
  rest_is d k e = ap (drop k) (sym e) ∙ drop-drop k at s

  agree_by : (d : List ℕ) → drop at s ≡ d → first_op d ≡ op_by s at (op_frame_at s at)
  unfolding first_op op_frame_at removal_of set_of first
  agree_by [] e =
      let n = length_is [] e in
      rw (le-leb (length s) at (omega arith)) refl
  agree_by (m ∷ []) e =
      let n = length_is (m ∷ []) e in
      rw (lt-leb (length s) at (omega arith), lt-ltb (length s - at) 3 (omega arith)) refl
  agree_by (m ∷ k ∷ []) e =
      let n = length_is (m ∷ k ∷ []) e in
      rw (lt-leb (length s) at (omega arith), lt-ltb (length s - at) 3 (omega arith))
      (by_test (eqb m 83 && eqb k 69) (λ h. rw h) (λ h. rw h (by_test (eqb m 82 && eqb k 77) (λ h. rw h) (λ h. rw h))))
  agree_by (m ∷ k ∷ t ∷ r) e =
      let d = m ∷ k ∷ t ∷ r in
      let n = length_is d e in
      let m' = sym (ap (λ (j : ℕ). get_or s j 0) (add-zero at)) ∙ byte_is d 0 e in
      let entry : set_of (first (t ∷ r)) ≡ op_by s at (set_at (frame_at s (at + 2))) =
      ap (λ (l : List ℕ). set_of (first l)) (rest_is d 2 e) ∙ set_agrees s at (frame_at s (at + 2)) (first (drop (at + 2) s)) (frame_agrees s (at + 2)) in
      let rest : r ≡ drop (at + 3) s = rest_is d 3 e in
      rw (lt-leb (length s) at (omega arith), le-ltb (length s - at) 3 (omega arith), byte_is d 1 e, byte_is d 2 e, m')
      (by_test (eqb m 83)
      (λ h. rw h (by_test (eqb k 69) (λ j. rw j entry) (λ j. rw j (by_test (eqb m 82) (λ q. absurd (omega (arith, eqb-true m 83 h, eqb-true m 82 q))) (λ q. rw q)))))
      (λ h. rw h (by_test (eqb m 82) (λ j. rw j (by_test (eqb k 77) (λ q. rw q (ap (operation (remove t)) rest)) (λ q. rw q))) (λ j. rw j))))

-- THE AGREEMENT of the two definitions
pub op_agrees : (s : List ℕ) (at : ℕ) → first_op (drop at s) ≡ op_by s at (op_frame_at s at)
op_agrees s at = agree_by s at (drop at s) refl

-- ---- the operations from a place on

abbrev pub step_by : List ℕ → ℕ → OpFrame → Listed
step_by s at o.End = ends_with clean
step_by s at o.Bad = ends_with (cut_at at)
step_by s at (o.Remove t) = after (op_at at (remove t)) (ops_from s (at + 3))
step_by s at (o.Set t a n) = after (op_at at (set (content t (take n (drop a s))))) (ops_from s (a + n))

step_by_lem : (s : List ℕ) (at : ℕ) (g : OpFrame) → OpInside s at g
    → op_step at (drop at s) (op_by s at g) (λ (next : ℕ) (rest : List ℕ). ops_from s next) ≡ step_by s at g
unfolding op_step
step_by_lem s at o.End i = refl
step_by_lem s at o.Bad i = refl
step_by_lem s at (o.Remove t) i =
    let k : at + (length (drop at s) - length (drop (at + 3) s)) ≡ at + 3 = rw (length-drop at s, length-drop (at + 3) s) (omega arith) in
    rw k
step_by_lem s at (o.Set t a n) i =
    let k : at + (length (drop at s) - length (drop (a + n) s)) ≡ a + n = rw (length-drop at s, length-drop (a + n) s) (omega (arith, i)) in
    rw k

-- THE STEP, by what stands at the place
pub op_step_lem : (s : List ℕ) (at : ℕ) → ops_from s at ≡ step_by s at (op_frame_at s at)
op_step_lem s at =
    ops_step s at ∙ ap (λ (x : FirstOp). op_step at (drop at s) x (λ (next : ℕ) (rest : List ℕ). ops_from s next)) (op_agrees s at)
    ∙ step_by_lem s at (op_frame_at s at) (op_inside s at)

-- ---- what a turn of a loop over the operations learns, by what `operation_at` found at its place
module _ (s : List ℕ) (at : ℕ) (r : OpFrame) (found : r ≡ op_frame_at s at) where
  pub turn_end : r ≡ o.End → ops_from s at ≡ ends_with clean
  turn_end e = op_step_lem s at ∙ ap (step_by s at) (sym found ∙ e)

  pub turn_bad : r ≡ o.Bad → ops_from s at ≡ ends_with (cut_at at)
  turn_bad e = op_step_lem s at ∙ ap (step_by s at) (sym found ∙ e)

  module _ (t : ℕ) (e : r ≡ o.Remove t) where
    pub turn_removal : ops_from s at ≡ after (op_at at (remove t)) (ops_from s (at + 3))
    turn_removal = op_step_lem s at ∙ ap (step_by s at) (sym found ∙ e)

    pub removal_inside : at + 3 ≤ length s
    removal_inside = subst (OpInside s at) (sym found ∙ e) (op_inside s at)

    pub removal_ops : (ops_from s at).ops ≡ op_at at (remove t) ∷ (ops_from s (at + 3)).ops
    removal_ops = ap (λ (w : Listed). w.ops) turn_removal

  module _ (t a n : ℕ) (e : r ≡ o.Set t a n) where
    pub turn_set : ops_from s at ≡ after (op_at at (set (content t (take n (drop a s))))) (ops_from s (a + n))
    turn_set = op_step_lem s at ∙ ap (step_by s at) (sym found ∙ e)

    pub set_within : (at + 4 ≤ a) × (a + n ≤ length s)
    set_within = subst (OpInside s at) (sym found ∙ e) (op_inside s at)

    pub set_ops : (ops_from s at).ops ≡ op_at at (set (content t (take n (drop a s)))) ∷ (ops_from s (a + n)).ops
    set_ops = ap (λ (w : Listed). w.ops) turn_set

-- the arm of a `match` for a set's entry that is none
pub set_none : (r : Frame) → ((t a n : ℕ) → r ≡ f.Entry t a n → ⊥) → o.Bad ≡ set_at r
unfolding set_at
set_none f.End never = refl
set_none f.Cut never = refl
set_none (f.Entry t a n) never = absurd (never t a n refl)
