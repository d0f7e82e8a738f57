-- The items of a channel mask: the items from a place on are what the code finds there, then the items from the next place; the count from a
-- state of the loop on; and one item as it is written. No proof but these, and Round, looks at the fuel.
-- Assumes nothing.
use mathlib.Core.Path.{◌≡◌, refl, sym, ap, ◌∙◌, subst}
use mathlib.Core.List.{List, [], ◌∷◌}
use Prim.Native.Nat.{ℕ, zero, suc, ◌+◌, ◌≤◌, ◌<◌}
use native.Mathlib.Omega.{arith}
use native.Mathlib.Nat.{add-zero, zero-add}
use lib.ListN.{length, take, drop, get_or, set, length-drop, length-set}
use lib.Seq.{drop-drop, get_or-drop}
use lib.Dec.{leb}
use borrow.Author.Tests.{le-leb, lt-leb, lt-ltb, le-ltb, leb-true, leb-false}
use Rattle.refusal.specs.Sizes.{most_bytes}
use Rattle.refusal.specs.Answer.{pick, Answer, given, absent, refused, on_given}
use Rattle.refusal.specs.Output.{output, emit, put, placing, placed}
use Rattle.laws.proofs.Tests.{by_test, pick_all}
use Rattle.laws.proofs.Emits.{emit_done, placed_next, placed_left}
use Rattle.channel_masks.specs.Mask.{Masked, masked, items_in, items, item_at, item_written}
use Rattle.channel_masks.specs.declared.MaskItem.{MaskItem}
use Rattle.channel_masks.specs.declared.MaskItem.TheVariants as i

-- ---- an item lies within the value, after its place

abbrev Inside : List ℕ → ℕ → MaskItem → Type 0
Inside v at i.End = length v ≤ at
Inside v at i.Cut = at < length v
Inside v at (i.Item p a n) = (at + 2 ≤ a) × (a + n ≤ length v)

inside : (v : List ℕ) (at : ℕ) → Inside v at (item_at v at)
unfolding item_at
inside v at =
    pick_all (Inside v at) (leb (length v) at) i.End _ (λ e. leb-true _ _ e) (λ e.
    pick_all (Inside v at) (leb (length v) (at + 1)) i.Cut _ (λ f. leb-false _ _ e) (λ f.
    pick_all (Inside v at) (leb (at + 2 + get_or v (at + 1) 0) (length v)) (i.Item _ (at + 2) (get_or v (at + 1) 0)) i.Cut
    (λ g. (omega arith, leb-true _ _ g)) (λ g. leb-false _ _ e)))

pub turn_inside : (v : List ℕ) (at : ℕ) (r : MaskItem) → r ≡ item_at v at → (p a n : ℕ) → r ≡ i.Item p a n → (at + 2 ≤ a) × (a + n ≤ length v)
turn_inside v at r found p a n e = subst (Inside v at) (sym found ∙ e) (inside v at)

-- ---- the items from a place on

abbrev pub ahead : Masked → Answer (List Masked) → Answer (List Masked)
ahead x a = on_given (λ (is : List Masked). x ∷ is) a

items_more : (fuel place : ℕ) (v : List ℕ) → length v ≤ fuel → items_in fuel place v ≡ items_in (suc fuel) place v
unfolding items_in
items_more zero place [] h = refl
items_more zero place (x ∷ xs) h = absurd (omega arith)
items_more (suc k) place [] h = refl
items_more (suc k) place (p ∷ []) h = refl
items_more (suc k) place (p ∷ n ∷ r) h =
    ap (λ (a : Answer (List Masked)). pick (leb n (length r)) (ahead (masked p (take n r)) a) (refused 5 place 0))
    (items_more k place (drop n r) (rw length-drop (omega arith)))

unfoldable pub items_from : (place : ℕ) → List ℕ → (at : ℕ) → Answer (List Masked)
items_from place v at = items_in (length v) place (drop at v)

-- what stands at the place, and then the items from the place after it
abbrev pub step_by : (place : ℕ) → List ℕ → MaskItem → Answer (List Masked)
step_by place v i.End = given []
step_by place v i.Cut = refused 5 place 0
step_by place v (i.Item p a n) = ahead (masked p (take n (drop a v))) (items_from place v (a + n))

module _ (place : ℕ) (v : List ℕ) (at : ℕ) where
  step_by_lem : (d : List ℕ) → drop at v ≡ d → items_in (suc (length v)) place d ≡ step_by place v (item_at v at)
  unfolding items_in item_at items_from
  step_by_lem [] e =
      let n = sym (length-drop at v) ∙ ap length e in
      rw (le-leb (length v) at (omega arith))
  step_by_lem (p ∷ []) e =
      let n = sym (length-drop at v) ∙ ap length e in
      rw (lt-leb (length v) at (omega arith), le-leb (length v) (at + 1) (omega arith))
  step_by_lem (p ∷ n ∷ r) e =
      let l = sym (length-drop at v) ∙ ap length e in
      let page = sym (ap (λ (k : ℕ). get_or v k 0) (add-zero at)) ∙ sym (get_or-drop at v 0 0) ∙ ap (λ (d : List ℕ). get_or d 0 0) e in
      let len = sym (get_or-drop at v 1 0) ∙ ap (λ (d : List ℕ). get_or d 1 0) e in
      let rest = sym (drop-drop 2 at v) ∙ ap (drop 2) e in
      by_test (leb n (length r))
      (λ t.
      let fits = leb-true n (length r) t in
      rw (lt-leb (length v) at (omega arith), lt-leb (length v) (at + 1) (omega arith), len, le-leb (at + 2 + n) (length v) (omega arith), t, page, ← drop-drop n (at + 2) v, rest))
      (λ t.
      let fits = leb-false n (length r) t in
      rw (lt-leb (length v) at (omega arith), lt-leb (length v) (at + 1) (omega arith), len, lt-leb (at + 2 + n) (length v) (omega arith), t))

  -- THE AGREEMENT of the two definitions: the step by places, with no fuel in it
  pub items_step : items_from place v at ≡ step_by place v (item_at v at)
  unfolding items_from
  items_step = items_more (length v) place (drop at v) (rw length-drop (omega arith)) ∙ step_by_lem (drop at v) refl

pub items_start : (place : ℕ) (v : List ℕ) → length v ≤ most_bytes → items place v ≡ items_from place v 0
unfolding items items_from
items_start place v h = simp (le-ltb _ _ h)

-- ---- the count, with n items passed

abbrev counted : ℕ → Answer (List Masked) → Answer ℕ
counted n a = on_given (λ (is : List Masked). n + length is) a

unfoldable pub tally : (place : ℕ) → List ℕ → (n at : ℕ) → Answer ℕ
tally place v n at = counted n (items_from place v at)

none_passed : (a : Answer (List Masked)) → counted 0 a ≡ on_given length a
none_passed (given is) = ap given (zero-add (length is))
none_passed absent = refl
none_passed (refused n p k) = refl

one_more : (n : ℕ) (x : Masked) (a : Answer (List Masked)) → counted (n + 1) a ≡ counted n (ahead x a)
one_more n x (given is) = ap given (omega arith)
one_more n x absent = refl
one_more n x (refused m p k) = refl

pub tally_start : (place : ℕ) (v : List ℕ) → length v ≤ most_bytes → tally place v 0 0 ≡ on_given length (items place v)
unfolding tally
tally_start place v h = none_passed (items_from place v 0) ∙ ap (on_given length) (sym (items_start place v h))

-- what a turn of the loop learns, by what `mask_item_at` found at its place
module _ (place : ℕ) (v : List ℕ) (n at : ℕ) (r : MaskItem) (found : r ≡ item_at v at) where
  turned : (x : MaskItem) → r ≡ x → counted n (step_by place v x) ≡ tally place v n at
  unfolding tally
  turned x e = ap (λ (y : MaskItem). counted n (step_by place v y)) (sym e ∙ found) ∙ ap (counted n) (sym (items_step place v at))

  pub turn_end : r ≡ i.End → given n ≡ tally place v n at
  turn_end e = sym (ap given (add-zero n)) ∙ turned i.End e

  pub turn_cut : r ≡ i.Cut → refused 5 place 0 ≡ tally place v n at
  turn_cut e = turned i.Cut e

  pub turn_item : (p a k : ℕ) → r ≡ i.Item p a k → tally place v (n + 1) (a + k) ≡ tally place v n at
  unfolding tally
  turn_item p a k e = one_more n (masked p (take k (drop a v))) (items_from place v (a + k)) ∙ turned (i.Item p a k) e

-- ---- one item as it is written

module _ (p : ℕ) (v : List ℕ) where
  pub item_too_long : 255 < length v → refused 13 0 0 ≡ item_written p v
  unfolding item_written
  item_too_long h = simp (lt-ltb _ _ h)

  pub item_fits : length v ≤ 255 → item_written p v ≡ given (p ∷ length v ∷ v)
  unfolding item_written
  item_fits h = simp (le-ltb _ _ h)

  put_item : (out : List ℕ) → put (set (set out 0 p) 1 (length v)) 2 v ≡ put out 0 (p ∷ length v ∷ v)
  unfolding put
  put_item out = refl

  -- page and length were stored, and then the bytes are placed after them
  pub item_emitted : (out left : List ℕ) (next : ℕ) → placing next left ≡ placed v 2 (set (set out 0 p) 1 (length v)) → length v ≤ 255
      → length v + 2 ≤ length out → output (given next) left ≡ emit (item_written p v) out
  item_emitted out left next told h room =
      let two = set (set out 0 p) 1 (length v) in
      let fits : 2 + length v ≤ length two = simp length-set (omega arith) in
      emit_done (item_written p v) out (p ∷ length v ∷ v) (item_fits h) next left
      (placed_next v 2 two next left told fits ∙ omega arith)
      (placed_left v 2 two next left told fits ∙ put_item out)
      (omega arith)
