-- The laws of the walk: a TLV lies after its place and before the end; and the walk from a place is one step, then the walk from the next place. No proof but
-- these looks at the fuel.
-- Assumes nothing.
use mathlib.Core.Path.{◌≡◌, refl, sym, ap, ◌∙◌, subst}
use mathlib.Core.List.{List, [], ◌∷◌}
use mathlib.Core.Bool.{true, false}
use Prim.Native.Nat.{ℕ, zero, suc, ◌+◌, ◌-◌, ◌≤◌, ◌<◌}
use native.Mathlib.Omega.{arith}
use native.Mathlib.Nat.{sub-zero}
use lib.ListN.{length, get_or, take, drop, length-drop}
use lib.Seq.{drop-drop, take-length, length-take-le}
use lib.Dec.{leb, ltb}
use borrow.Author.Tests.{ltb-false, leb-true, leb-false, le-leb, le-ltb, lt-leb, lt-ltb}
use Rattle.laws.proofs.Tests.{by_test, pick_all}
use Rattle.laws.proofs.Parts.{length_part}
use Rattle.network_framing.specs.Tlvs.{First, none, cut, one, first, opened, Walk, clean, short, done, onto, step, frames, piece}
use Rattle.network_framing.specs.Frame.{part, sub_in, inner_of, head_at, walk_in, sub_answer}
use Rattle.network_framing.specs.Place.{sub_place}
use Rattle.network_framing.proofs.Agrees.{sub_tells, sub_agrees, size_is, byte_is, first_is}
use Rattle.network_framing.specs.declared.SubTlv.{SubTlv}
use Rattle.network_framing.specs.declared.SubTlv.TheVariants.{Item, Cut, End}

-- where a TLV lies
abbrev pub Inside : (at end : ℕ) → SubTlv → Type 0
Inside at end End = end ≤ at
Inside at end Cut = at < end
Inside at end (Item t a n) = (at + 2 ≤ a) × (a + n ≤ end)

pub inside : (s : List ℕ) (at end : ℕ) → Inside at end (sub_place s at end)
unfolding sub_place
inside s at end =
    pick_all (Inside at end) (leb end at) End _ (λ e. leb-true _ _ e) (λ e1.
    pick_all (Inside at end) (ltb (length s) end) Cut _ (λ e2. leb-false _ _ e1) (λ e2.
    pick_all (Inside at end) (ltb (end - at) 2) Cut _ (λ e3. leb-false _ _ e1) (λ e3.
    pick_all (Inside at end) (leb (get_or s (at + 1) 0) (end - (at + 2))) _ Cut
    (λ e4. (omega arith, omega (arith, ltb-false, leb-true)))
    (λ e4. leb-false _ _ e1))))

-- ---- fuel
abbrev Shorter : List ℕ → First → Type 0
Shorter s none = Unit {0}
Shorter s cut = Unit {0}
Shorter s (one t v rest) = length rest + 2 ≤ length s

shorter : (s : List ℕ) → Shorter s (first s)
unfolding first
shorter [] = tt
shorter (t ∷ []) = tt
shorter (t ∷ l ∷ rest) =
    pick_all (Shorter (t ∷ l ∷ rest)) (leb l (length rest)) (one _ (take l rest) (drop l rest)) cut (λ e. let d = length-drop l rest in omega arith) (λ e. tt)

step_same : (s : List ℕ) (at : ℕ) (x : First) (p q : ℕ → List ℕ → Walk) → Shorter s x
    → ((k : ℕ) (r : List ℕ) → length r + 2 ≤ length s → p k r ≡ q k r) → step at x p ≡ step at x q
unfolding step
step_same s at none p q i h = refl
step_same s at cut p q i h = refl
step_same s at (one t v r) p q i h = ap (onto (piece t (at + 2) (length v))) (h (at + 2 + length v) r i)

-- any fuel that is enough is as good as any other
enough : (f g at : ℕ) (s : List ℕ) → length s ≤ f → length s ≤ g → frames f at s ≡ frames g at s
unfolding frames step first
enough zero zero at s h k = refl
enough zero (suc g) at [] h k = refl
enough zero (suc g) at (x ∷ s) h k = absurd (omega arith)
enough (suc f) zero at [] h k = refl
enough (suc f) zero at (x ∷ s) h k = absurd (omega arith)
enough (suc f) (suc g) at s h k =
    step_same s at (first s) (λ n r. frames f n r) (λ n r. frames g n r) (shorter s) (λ n r l. enough f g n r (omega arith) (omega arith))

-- ---- a step, by places
unfoldable pub step_by : SubTlv → (ℕ → Walk) → Walk
step_by End next = done clean
step_by Cut next = done short
step_by (Item t a n) next = onto (piece t a n) (next (a + n))

none_left : (j : ℕ) → ◌≡◌ {A = List ℕ} [] (take j [])
none_left zero = refl
none_left (suc j) = refl

pub drop_part : (k n : ℕ) (l : List ℕ) → drop k (take n l) ≡ take (n - k) (drop k l)
drop_part zero n l = ap (λ (k : ℕ). take k l) (sym (sub-zero n))
drop_part (suc k) zero l =
    let z : 0 ≡ 0 - suc k = omega arith in
    ap (λ (j : ℕ). take j (drop (suc k) l)) z
drop_part (suc k) (suc n) [] = none_left (suc n - suc k)
drop_part (suc k) (suc n) (x ∷ l) =
    let z : n - k ≡ suc n - suc k = omega arith in
    drop_part k n l ∙ ap (λ (j : ℕ). take j (drop k l)) z

-- the rest of a part is the part from a later place on
later : (s : List ℕ) (at k end : ℕ) → drop k (part s at end) ≡ part s (at + k) end
later s at k end =
    let z : end - at - k ≡ end - (at + k) = omega arith in
    drop_part k (end - at) (drop at s) ∙ ap (take (end - at - k)) (drop-drop k at s) ∙ ap (λ (n : ℕ). take n (drop (at + k) s)) z

module _ (s : List ℕ) (at end : ℕ) (less : at < end) (room : end ≤ length s) where
  -- the walk from a later place on, as the definition goes on to it
  goes_on : (k f : ℕ) (d : List ℕ) → part s (at + k) end ≡ d → length d ≤ f → frames f (at + k) d ≡ walk_in s (at + k) end
  unfolding walk_in frames
  goes_on k f d e h =
      by_test (leb end (at + k))
      (λ a.
      let z : end - (at + k) ≡ 0 = omega (arith, leb-true end (at + k) a) in
      let n : length d ≡ end - (at + k) = ap length (sym e) ∙ length-take-le (end - (at + k)) (drop (at + k) s) (omega arith) in
      simp a (enough f zero (at + k) d h (omega arith)))
      (λ a.
      let n : length (part s (at + k) end) ≡ end - (at + k) = length_part s (at + k) (end - (at + k)) (omega (arith, leb-false end (at + k) a)) in
      let h' : length (part s (at + k) end) ≤ f = rw e h in
      simp (a, le-ltb _ _ room) (ap (frames f (at + k)) (sym e) ∙ enough f (end - (at + k)) (at + k) (part s (at + k) end) h' (omega arith)))

  walk_by : (d : List ℕ) → part s at end ≡ d → frames (end - at) at d ≡ step_by (sub_place s at end) (λ k. walk_in s k end)
  unfolding sub_place step_by frames step first
  walk_by [] e = absurd (let n = size_is s at end less room [] e in omega arith)
  walk_by (t ∷ []) e =
      let n = size_is s at end less room (t ∷ []) e in
      enough (end - at) 1 at (t ∷ []) (omega arith) (omega arith)
      ∙ simp (lt-leb _ _ less, le-ltb _ _ room, lt-ltb (end - at) 2 (omega arith))
  walk_by (t ∷ l ∷ r) e =
      let d = t ∷ l ∷ r in
      let n = size_is s at end less room d e in
      let k : end - (at + 2) ≡ length r = omega arith in
      let b1 = byte_is s at end less room d 1 (omega arith) e in
      let b0 = first_is s at end less room d e (omega arith) in
      let more = enough (end - at) (suc (length d)) at d (omega arith) (omega arith) in
      by_test (leb l (length r))
      (λ h.
      let m = length-take-le l r (leb-true l (length r) h) in
      let q : at + 2 + l ≡ at + suc (suc l) = omega arith in
      let e' : part s (at + suc (suc l)) end ≡ drop l r = sym (later s at (suc (suc l)) end) ∙ ap (drop (suc (suc l))) e in
      let go = goes_on (suc (suc l)) (length d) (drop l r) e' (let z = length-drop l r in omega arith) in
      more ∙ simp (lt-leb _ _ less, le-ltb _ _ room, le-ltb (end - at) 2 (omega arith), b1, b0, k, h, m, q) (ap (onto _) go))
      (λ h. more ∙ simp (lt-leb _ _ less, le-ltb _ _ room, le-ltb (end - at) 2 (omega arith), b1, k, h))

module _ (s : List ℕ) (at end : ℕ) where
  no_more : leb end at ≡ true → walk_in s at end ≡ step_by (sub_place s at end) (λ k. walk_in s k end)
  unfolding walk_in sub_place step_by
  no_more a = simp a

  too_few : leb end at ≡ false → ltb (length s) end ≡ true → walk_in s at end ≡ step_by (sub_place s at end) (λ k. walk_in s k end)
  unfolding walk_in sub_place step_by
  too_few a b = simp (a, b)

  all_there : leb end at ≡ false → ltb (length s) end ≡ false → walk_in s at end ≡ frames (end - at) at (part s at end)
  unfolding walk_in
  all_there a b = simp (a, b)

  -- THE STEP, with no fuel in it
  pub walk_step : walk_in s at end ≡ step_by (sub_place s at end) (λ k. walk_in s k end)
  walk_step =
      by_test (leb end at) no_more
      (λ a. by_test (ltb (length s) end) (too_few a)
      (λ b. all_there a b ∙ walk_by s at end (leb-false _ _ a) (ltb-false _ _ b) (part s at end) refl))

pub walk_end : (s : List ℕ) (at end : ℕ) → end ≤ at → walk_in s at end ≡ done clean
unfolding walk_in
walk_end s at end h = simp (le-leb _ _ h)

-- ---- of all of v

pub walk_whole : (v : List ℕ) → walk_in v 0 (length v) ≡ frames (length v) 0 v
unfolding walk_in frames
walk_whole [] = refl
walk_whole (b ∷ v) = simp (lt-leb (length (b ∷ v)) 0 (omega arith), le-ltb (length (b ∷ v)) (length (b ∷ v)) (omega arith), sub-zero, take-length)

pub head_whole : (v : List ℕ) → head_at v 0 (length v) ≡ inner_of 0 (opened v)
unfolding head_at inner_of opened
head_whole [] = refl
head_whole (b ∷ v) =
    simp (lt-leb (length (b ∷ v)) 0 (omega arith), le-ltb (length (b ∷ v)) (length (b ∷ v)) (omega arith), sub-zero)
    (ap (λ (l : List ℕ). inner_of 0 (opened l)) (take-length (b ∷ v)))

-- what a turn of a loop over the TLVs learns of the walk from its place, by what `sub_in` found there
module _ (s : List ℕ) (at end : ℕ) (r : SubTlv) (told : sub_answer r ≡ sub_in s at end) where
  pub found : r ≡ sub_place s at end
  found = sub_tells r (sub_place s at end) (told ∙ sym (sub_agrees s at end))

  pub turn_end : r ≡ End → walk_in s at end ≡ done clean
  unfolding step_by
  turn_end e = walk_step s at end ∙ ap (λ (f : SubTlv). step_by f (λ k. walk_in s k end)) (sym found ∙ e)

  pub turn_cut : r ≡ Cut → walk_in s at end ≡ done short
  unfolding step_by
  turn_cut e = walk_step s at end ∙ ap (λ (f : SubTlv). step_by f (λ k. walk_in s k end)) (sym found ∙ e)

  module _ (t a n : ℕ) (e : r ≡ Item t a n) where
    pub turn_item : walk_in s at end ≡ onto (piece t a n) (walk_in s (a + n) end)
    unfolding step_by
    turn_item = walk_step s at end ∙ ap (λ (f : SubTlv). step_by f (λ k. walk_in s k end)) (sym found ∙ e)

    pub turn_inside : (at + 2 ≤ a) × (a + n ≤ end)
    turn_inside = subst (Inside at end) (sym found ∙ e) (inside s at end)

    pub turn_items : (walk_in s at end).items ≡ piece t a n ∷ (walk_in s (a + n) end).items
    turn_items = ap (λ (w : Walk). w.items) turn_item

-- where a walk ends: there is no TLV
pub turn_none : (s : List ℕ) (at end : ℕ) (r : SubTlv) → sub_answer r ≡ sub_in s at end → ((t a n : ℕ) → r ≡ Item t a n → ⊥) → (walk_in s at end).items ≡ []
turn_none s at end End found k = ap (λ (w : Walk). w.items) (turn_end s at end End found refl)
turn_none s at end Cut found k = ap (λ (w : Walk). w.items) (turn_cut s at end Cut found refl)
turn_none s at end (Item t a n) found k = absurd (k t a n refl)
