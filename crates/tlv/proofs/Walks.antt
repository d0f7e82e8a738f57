-- The laws of framing: what the code finds at a place is what `first` finds in the bytes from there on; the framing from a place on is one
-- step, then the framing from the next place; and every entry lies within the input. No proof but these looks at the fuel.
-- Assumes nothing.
use mathlib.Core.Path.{◌≡◌, refl, sym, ap, ◌∙◌, subst}
use mathlib.Core.List.{List, [], ◌∷◌}
use mathlib.Core.Logic.{⊎_elim}
use types.Run.{OneOf}
use denote.Enum.Declared.{tag_of}
use Prim.Native.Nat.{ℕ, zero, suc, ◌+◌, ◌-◌, ◌*◌, ◌≤◌, ◌<◌}
use native.Mathlib.Omega.{arith}
use native.Mathlib.Nat.{add-zero, zero-add}
use lib.ListN.{length, get_or, take, drop, length-drop}
use lib.Seq.{drop-drop, get_or-drop}
use lib.Dec.{leb, ltb, eqb}
use borrow.Author.Tests.{le-leb, lt-leb, lt-ltb, le-ltb, ltb-false, leb-true, leb-false}
use Rattle.refusal.specs.Answer.{Answer, given, refused}
use Rattle.laws.proofs.Tests.{by_test, pick_all}
use Rattle.refusal.specs.Every.{Every}
use Rattle.laws.proofs.Parts.{length_part}
use Rattle.tlv.specs.Entries.{First, none, cut, one, valued, long, first, Entry, entry, clean, cut_at, Framing, done, onto, step, frames, framing}
use Rattle.tlv.specs.Place.{frame_at, value_at}
use Rattle.tlv.specs.Answers.{Head, head, head_of}
use Rattle.tlv.specs.contracts.Frame
use Rattle.tlv.specs.declared.Frame.{Frame}
use Rattle.tlv.specs.declared.Frame.TheVariants as f

-- ---- a frame lies within the input, after its place

abbrev pub Inside : List ℕ → ℕ → Frame → Type 0
Inside s at f.End = length s ≤ at
Inside s at f.Cut = at < length s
Inside s at (f.Entry t a n) = (at + 2 ≤ a) × (a + n ≤ length s)

value_inside : (s : List ℕ) (at t a n : ℕ) → at + 2 ≤ a → a ≤ length s → Inside s at (value_at s t a n)
unfolding value_at
value_inside s at t a n h k =
    pick_all (Inside s at) (leb n (length s - a)) (f.Entry t a n) f.Cut (λ e. omega (arith, leb-true)) (λ e. omega arith)

pub inside : (s : List ℕ) (at : ℕ) → Inside s at (frame_at s at)
unfolding frame_at
inside s at =
    pick_all (Inside s at) (leb (length s) at) f.End _ (λ e. leb-true _ _ e) (λ e1.
    pick_all (Inside s at) (ltb (length s - at) 2) f.Cut _ (λ e2. leb-false _ _ e1) (λ e2.
    pick_all (Inside s at) (eqb (get_or s (at + 1) 0) 255) _ _
    (λ e3. pick_all (Inside s at) (ltb (length s - at) 4) f.Cut _ (λ e4. leb-false _ _ e1) (λ e4.
    value_inside s at _ (at + 4) _ (omega arith) (omega (arith, ltb-false))))
    (λ e3. value_inside s at _ (at + 2) _ (omega arith) (omega (arith, ltb-false)))))

-- ---- it is what stands first in the bytes from the place on

abbrev pub Agree : List ℕ → ℕ → Frame → First → Type 0
Agree s at f.End none = Unit {0}
Agree s at f.End cut = ⊥
Agree s at f.End (one t h v r) = ⊥
Agree s at f.Cut none = ⊥
Agree s at f.Cut cut = Unit {0}
Agree s at f.Cut (one t h v r) = ⊥
Agree s at (f.Entry t a n) none = ⊥
Agree s at (f.Entry t a n) cut = ⊥
Agree s at (f.Entry t a n) (one t' h v r) = (t ≡ t') × (a ≡ at + h) × (take n (drop a s) ≡ v) × (drop (a + n) s ≡ r)

module _ (s : List ℕ) (at : ℕ) where
  agree_value : (t h n : ℕ) → Agree s at (value_at s t (at + h) n) (valued t h n (drop (at + h) s))
  unfolding value_at valued
  agree_value t h n =
      by_test (leb n (length s - (at + h)))
      (λ e. rw (length-drop, e) (refl, refl, refl, sym (drop-drop n (at + h) s)))
      (λ e. rw (length-drop, e) tt)

  -- the bytes from the place on, one after the other
  length_is : (d : List ℕ) → drop at s ≡ d → length s - at ≡ length d
  length_is d e = sym (length-drop at s) ∙ ap length e

  byte_is : (d : List ℕ) (k : ℕ) → drop at s ≡ d → get_or s (at + k) 0 ≡ get_or d k 0
  byte_is d k e = sym (get_or-drop at s k 0) ∙ ap (λ (l : List ℕ). get_or l k 0) e

  rest_is : (d : List ℕ) (k : ℕ) → drop at s ≡ d → drop k d ≡ drop (at + k) s
  rest_is d k e = ap (drop k) (sym e) ∙ drop-drop k at s

  -- at least two bytes: a long header with all its bytes, or without, or a short one
  agree_two : (t l : ℕ) (r : List ℕ) → drop at s ≡ t ∷ l ∷ r → Agree s at (frame_at s at) (first (t ∷ l ∷ r))
  unfolding frame_at first long
  agree_two t l [] e =
      let d = t ∷ l ∷ [] in
      let n = length_is d e in
      let t' = sym (ap (λ (k : ℕ). get_or s k 0) (add-zero at)) ∙ byte_is d 0 e in
      rw (lt-leb (length s) at (omega arith), le-ltb (length s - at) 2 (omega arith), lt-ltb (length s - at) 4 (omega arith), byte_is d 1 e, t')
      (by_test (eqb l 255) (λ h. rw h tt) (λ h. rw (h, rest_is d 2 e) (agree_value t 2 l)))
  agree_two t l (a ∷ []) e =
      let d = t ∷ l ∷ a ∷ [] in
      let n = length_is d e in
      let t' = sym (ap (λ (k : ℕ). get_or s k 0) (add-zero at)) ∙ byte_is d 0 e in
      rw (lt-leb (length s) at (omega arith), le-ltb (length s - at) 2 (omega arith), lt-ltb (length s - at) 4 (omega arith), byte_is d 1 e, t')
      (by_test (eqb l 255) (λ h. rw h tt) (λ h. rw (h, rest_is d 2 e) (agree_value t 2 l)))
  agree_two t l (a ∷ b ∷ r) e =
      let d = t ∷ l ∷ a ∷ b ∷ r in
      let n = length_is d e in
      let t' = sym (ap (λ (k : ℕ). get_or s k 0) (add-zero at)) ∙ byte_is d 0 e in
      rw (lt-leb (length s) at (omega arith), le-ltb (length s - at) 2 (omega arith), le-ltb (length s - at) 4 (omega arith), byte_is d 1 e, byte_is d 2 e, byte_is d 3 e, t')
      (by_test (eqb l 255)
      (λ h. rw (h, rest_is d 4 e) (agree_value t 4 (a * 256 + b)))
      (λ h. rw (h, rest_is d 2 e) (agree_value t 2 l)))

  agree_by : (d : List ℕ) → drop at s ≡ d → Agree s at (frame_at s at) (first d)
  unfolding frame_at first
  agree_by [] e =
      let n = length_is [] e in
      rw (le-leb (length s) at (omega arith)) tt
  agree_by (t ∷ []) e =
      let n = length_is (t ∷ []) e in
      rw (lt-leb (length s) at (omega arith), lt-ltb (length s - at) 2 (omega arith)) tt
  agree_by (t ∷ l ∷ r) e = agree_two t l r e

-- THE AGREEMENT of the two definitions
pub frame_agrees : (s : List ℕ) (at : ℕ) → Agree s at (frame_at s at) (first (drop at s))
frame_agrees s at = agree_by s at (drop at s) refl

-- ---- the framing from a place on

abbrev Shorter : List ℕ → First → Type 0
Shorter s none = Unit {0}
Shorter s cut = Unit {0}
Shorter s (one t h v rest) = length rest + 2 ≤ length s

valued_shorter : (s : List ℕ) (t h n : ℕ) (rest : List ℕ) → length rest + 2 ≤ length s → Shorter s (valued t h n rest)
unfolding valued
valued_shorter s t h n rest k =
    pick_all (Shorter s) (leb n (length rest)) (one t h (take n rest) (drop n rest)) cut
    (λ e. let d = length-drop n rest in omega arith) (λ e. tt)

long_shorter : (s : List ℕ) (t : ℕ) (rest : List ℕ) → length rest + 2 ≤ length s → Shorter s (long t rest)
unfolding long
long_shorter s t [] k = tt
long_shorter s t (a ∷ []) k = tt
long_shorter s t (a ∷ b ∷ r) k = valued_shorter s t 4 (a * 256 + b) r (omega arith)

shorter : (s : List ℕ) → Shorter s (first s)
unfolding first
shorter [] = tt
shorter (t ∷ []) = tt
shorter (t ∷ l ∷ rest) =
    let s = t ∷ l ∷ rest in
    pick_all (Shorter s) (eqb l 255) (long t rest) (valued t 2 l rest)
    (λ e. long_shorter s t rest (omega arith)) (λ e. valued_shorter s t 2 l rest (omega arith))

step_same : (s : List ℕ) (at : ℕ) (x : First) (p q : ℕ → List ℕ → Framing) → Shorter s x
    → ((k : ℕ) (r : List ℕ) → length r + 2 ≤ length s → p k r ≡ q k r) → step at x p ≡ step at x q
unfolding step
step_same s at none p q i h = refl
step_same s at cut p q i h = refl
step_same s at (one t k v r) p q i h = ap (onto (entry at t (at + k) v)) (h (at + k + length v) r i)

frames_more : (fuel at : ℕ) (s : List ℕ) → length s ≤ fuel → frames fuel at s ≡ frames (suc fuel) at s
unfolding frames step first
frames_more zero at [] h = refl
frames_more zero at (x ∷ xs) h = absurd (omega arith)
frames_more (suc k) at s h =
    step_same s at (first s) (λ n r. frames k n r) (λ n r. frames (suc k) n r) (shorter s) (λ n r l. frames_more k n r (omega arith))

unfoldable pub from : List ℕ → ℕ → Framing
from s at = frames (length s) at (drop at s)

pub from_start : (s : List ℕ) → from s 0 ≡ framing s
unfolding from framing
from_start s = refl

abbrev step_by : List ℕ → ℕ → Frame → Framing
step_by s at f.End = done clean
step_by s at f.Cut = done (cut_at at)
step_by s at (f.Entry t a n) = onto (entry at t a (take n (drop a s))) (from s (a + n))

step_by_lem : (s : List ℕ) (at : ℕ) (g : Frame) (x : First) → Agree s at g x → Inside s at g
    → step at x (λ (n : ℕ) (r : List ℕ). frames (length s) n r) ≡ step_by s at g
unfolding step from
step_by_lem s at f.End none a i = refl
step_by_lem s at f.End cut a i = absurd a
step_by_lem s at f.End (one t h v r) a i = absurd a
step_by_lem s at f.Cut none a i = absurd a
step_by_lem s at f.Cut cut a i = refl
step_by_lem s at f.Cut (one t h v r) a i = absurd a
step_by_lem s at (f.Entry t a n) none e i = absurd e
step_by_lem s at (f.Entry t a n) cut e i = absurd e
step_by_lem s at (f.Entry t a n) (one t' h v r) e i = rw (← e.0, ← e.1, ← e.2, ← e.3, length_part s a n i.1)

-- THE STEP, with no fuel in it
pub framing_step : (s : List ℕ) (at : ℕ) → from s at ≡ step_by s at (frame_at s at)
unfolding from frames
framing_step s at =
    frames_more (length s) at (drop at s) (rw length-drop (omega arith)) ∙ step_by_lem s at (frame_at s at) (first (drop at s)) (frame_agrees s at) (inside s at)

-- ---- what a turn of a loop over the entries learns, by what `frame_at` found at its place
module _ (s : List ℕ) (at : ℕ) (r : Frame) (found : r ≡ frame_at s at) where
  pub turn_end : r ≡ f.End → from s at ≡ done clean
  turn_end e = framing_step s at ∙ ap (step_by s at) (sym found ∙ e)

  pub turn_cut : r ≡ f.Cut → from s at ≡ done (cut_at at)
  turn_cut e = framing_step s at ∙ ap (step_by s at) (sym found ∙ e)

  module _ (t a n : ℕ) (e : r ≡ f.Entry t a n) where
    pub turn_entry : from s at ≡ onto (entry at t a (take n (drop a s))) (from s (a + n))
    turn_entry = framing_step s at ∙ ap (step_by s at) (sym found ∙ e)

    pub turn_inside : (at + 2 ≤ a) × (a + n ≤ length s)
    turn_inside = subst (Inside s at) (sym found ∙ e) (inside s at)

    pub turn_entries : (from s at).entries ≡ entry at t a (take n (drop a s)) ∷ (from s (a + n)).entries
    turn_entries = ap (λ (w : Framing). w.entries) turn_entry

-- the arm of a `match` for whatever is no entry
pub turn_none : (s : List ℕ) (at : ℕ) (r : Frame) → r ≡ frame_at s at → OneOf (1 ∷ 2 ∷ []) (tag_of Frame.the_type r) → (from s at).entries ≡ []
turn_none s at f.End found k = ap (λ (w : Framing). w.entries) (turn_end s at f.End found refl)
turn_none s at f.Cut found k = ap (λ (w : Framing). w.entries) (turn_cut s at f.Cut found refl)
turn_none s at (f.Entry t a n) found k = ⊎_elim (λ e. absurd (omega arith)) (λ e. absurd (omega arith)) k

-- ---- every entry lies within the input: its value is the part of s from its start on
abbrev pub Lies : List ℕ → Entry → Type 0
Lies s e = (e.place + 2 ≤ e.start) × (e.start + length e.value ≤ length s) × (e.value ≡ take (length e.value) (drop e.start s))

step_lies : (s : List ℕ) (at k : ℕ) (g : Frame) (x : First) → Agree s at g x → Inside s at g
    → ((m : ℕ) → Every (Lies s) (frames k m (drop m s)).entries)
    → Every (Lies s) (step at x (λ (n : ℕ) (r : List ℕ). frames k n r)).entries
unfolding step
step_lies s at k g none a i h = tt
step_lies s at k g cut a i h = tt
step_lies s at k f.End (one t h v r) a i go = absurd a
step_lies s at k f.Cut (one t h v r) a i go = absurd a
step_lies s at k (f.Entry t a n) (one t' h v r) e i go =
    let l = length_part s a n i.1 in
    rw (← e.1, ← e.2, ← e.3, l) ((i.0, i.1, refl), go (a + n))

frames_lie : (fuel : ℕ) (s : List ℕ) (at : ℕ) → Every (Lies s) (frames fuel at (drop at s)).entries
unfolding frames
frames_lie zero s at = tt
frames_lie (suc k) s at =
    step_lies s at k (frame_at s at) (first (drop at s)) (frame_agrees s at) (inside s at) (λ m. frames_lie k s m)

pub framing_lies : (s : List ℕ) → Every (Lies s) (framing s).entries
unfolding framing
framing_lies s = frames_lie (length s) s 0

-- ---- the first entry by itself
abbrev head_at : Frame → Answer Head
head_at f.End = refused 2 0 0
head_at f.Cut = refused 2 0 0
head_at (f.Entry t a n) = given (head t a n)

head_by : (s : List ℕ) (g : Frame) (x : First) → Agree s 0 g x → Inside s 0 g → head_at g ≡ head_of x
unfolding head_of
head_by s f.End none a i = refl
head_by s f.End cut a i = refl
head_by s f.End (one t h v r) a i = absurd a
head_by s f.Cut none a i = refl
head_by s f.Cut cut a i = refl
head_by s f.Cut (one t h v r) a i = absurd a
head_by s (f.Entry t a n) none e i = absurd e
head_by s (f.Entry t a n) cut e i = absurd e
head_by s (f.Entry t a n) (one t' h v r) e i = rw (e.0, e.1, zero-add, ← e.2, length_part s a n i.1)

module _ (s : List ℕ) (r : Frame) (found : r ≡ frame_at s 0) where
  pub head_entry : (t a n : ℕ) → r ≡ f.Entry t a n → given (head t a n) ≡ head_of (first s)
  head_entry t a n e = ap head_at (sym e ∙ found) ∙ head_by s (frame_at s 0) (first s) (frame_agrees s 0) (inside s 0)

  pub head_none : ((t a n : ℕ) → r ≡ f.Entry t a n → ⊥) → refused 2 0 0 ≡ head_of (first s)
  head_none never = no_head r never ∙ ap head_at found ∙ head_by s (frame_at s 0) (first s) (frame_agrees s 0) (inside s 0)
    where
      no_head : (g : Frame) → ((t a n : ℕ) → g ≡ f.Entry t a n → ⊥) → refused 2 0 0 ≡ head_at g
      no_head f.End k = refl
      no_head f.Cut k = refl
      no_head (f.Entry t a n) k = absurd (k t a n refl)
