-- The walker's bytes are what is left of the value: what stands from a place on is what stands in the bytes from there on, with its places moved; and what
-- stands before a place is what stands in the bytes up to it. So what the walker comes by, until its end, are the definition's TLVs.
-- Assumes nothing.
use mathlib.Core.Path.{◌≡◌, refl, sym, ap, ◌∙◌}
use mathlib.Core.List.{List, [], ◌∷◌, map}
use Prim.Native.Nat.{ℕ, zero, suc, ◌+◌, ◌-◌, ◌≤◌, ◌<◌}
use native.Mathlib.Omega.{arith}
use native.Mathlib.Nat.{add-zero}
use lib.ListN.{length, take, drop, length-drop}
use lib.Seq.{drop-drop, take-take, length-take-le}
use lib.Dec.{leb, ltb}
use borrow.Author.Tests.{leb-true, leb-false, ltb-true, ltb-false, le-leb, lt-leb, lt-ltb, le-ltb}
use Rattle.refusal.specs.Answer.{Answer, given, refused, on_given}
use Rattle.laws.proofs.Tests.{by_test}
use Rattle.network_framing.specs.Tlvs.{First, none, cut, one, first, Opening, broken, opening, opened, Piece, piece, Walk, clean, short, done, onto, step, frames}
use Rattle.network_framing.specs.Frame.{part, among, sub_in, inner_of, head_at, walk_in, sub_answer}
use Rattle.network_framing.specs.Place.{sub_place}
use Rattle.network_framing.proofs.Agrees.{sub_agrees}
use Rattle.network_walker.specs.Walker.{after, rest_of, Tlv, Came, came, tlv, finds, comes_by, tlv_at, came_of}
use Rattle.network_walker.proofs.Rests.{rest_item}
use Rattle.network_framing.specs.declared.SubTlv.{SubTlv}
use Rattle.network_framing.specs.declared.SubTlv.TheVariants.{Item, Cut, End}
use Rattle.network_framing.proofs.Walks.{drop_part, walk_end, turn_end, turn_cut, turn_item, turn_inside}

-- places counted from k, as places of the whole
unfoldable pub moved_items : ℕ → List Piece → List Piece
moved_items k [] = []
moved_items k (e ∷ es) = piece e.ty (k + e.start) e.len ∷ moved_items k es

abbrev pub moved : ℕ → Walk → Walk
moved k w = record { items = moved_items k w.items; stop = w.stop }

abbrev pub moved_by : ℕ → Answer ℕ → Answer ℕ
moved_by k a = on_given (λ (at : ℕ). k + at) a

-- ---- the definition reads bytes, and only counts on from the place that it is given
module _ (k : ℕ) where
  step_moved : (at : ℕ) (x : First) (p q : ℕ → List ℕ → Walk) → ((n : ℕ) (r : List ℕ) → p (k + n) r ≡ moved k (q n r)) → step (k + at) x p ≡ moved k (step at x q)
  unfolding step moved_items
  step_moved at none p q h = refl
  step_moved at cut p q h = refl
  step_moved at (one t v r) p q h =
      let a : k + at + 2 ≡ k + (at + 2) = omega arith in
      let b : k + at + 2 + length v ≡ k + (at + 2 + length v) = omega arith in
      ap (λ (x : ℕ). onto (piece t x (length v)) (p (k + at + 2 + length v) r)) a
      ∙ ap (onto (piece t (k + (at + 2)) (length v))) (ap (λ (x : ℕ). p x r) b ∙ h (at + 2 + length v) r)

  frames_moved : (f at : ℕ) (d : List ℕ) → frames f (k + at) d ≡ moved k (frames f at d)
  unfolding frames moved_items
  frames_moved zero at d = refl
  frames_moved (suc f) at d = step_moved at (first d) (λ n r. frames f n r) (λ n r. frames f n r) (λ n r. frames_moved f n r)

  inner_moved : (at : ℕ) (x : Opening) → inner_of (k + at) x ≡ moved_by k (inner_of at x)
  unfolding inner_of
  inner_moved at broken = refl
  inner_moved at (opening d b bytes r) =
      let a : k + at + (2 + length bytes) ≡ k + (at + (2 + length bytes)) = omega arith in
      ap given a

-- ---- from the place k on
among_map : {A B : Type 0} (f : A → B) (s : List ℕ) (at end : ℕ) (x y z : A) → among s at end (f x) (f y) (f z) ≡ f (among s at end x y z)
among_map f s at end x y z =
    by_test (leb end at) (λ a. simp a) (λ a. by_test (ltb (length s) end) (λ b. simp (a, b)) (λ b. simp (a, b)))

module _ (s : List ℕ) (k at end : ℕ) where
  part_drop : part s (k + at) (k + end) ≡ part (drop k s) at end
  part_drop =
      let n : k + end - (k + at) ≡ end - at = omega arith in
      ap (λ (m : ℕ). take m (drop (k + at) s)) n ∙ ap (take (end - at)) (sym (drop-drop at k s))

  among_drop : {A : Type 0} (x y z : A) → among s (k + at) (k + end) x y z ≡ among (drop k s) at end x y z
  among_drop x y z =
      by_test (leb end at)
      (λ a. let h : k + end ≤ k + at = omega (arith, leb-true end at a) in simp (a, le-leb _ _ h))
      (λ a. let h : k + at < k + end = omega (arith, leb-false end at a) in
      by_test (ltb (length s) (k + end))
      (λ b. let l : length s - k < end = omega (arith, leb-false end at a, ltb-true (length s) (k + end) b) in simp (a, lt-leb _ _ h, b, length-drop, lt-ltb _ _ l))
      (λ b. let l : end ≤ length s - k = omega (arith, ltb-false (length s) (k + end) b) in simp (a, lt-leb _ _ h, b, length-drop, le-ltb _ _ l)))

  pub walk_drop : walk_in s (k + at) (k + end) ≡ moved k (walk_in (drop k s) at end)
  unfolding walk_in moved_items
  walk_drop =
      let n : k + end - (k + at) ≡ end - at = omega arith in
      among_drop (done clean) (done short) (frames (k + end - (k + at)) (k + at) (part s (k + at) (k + end)))
      ∙ ap (among (drop k s) at end (done clean) (done short))
      (ap (λ (f : ℕ). frames f (k + at) (part s (k + at) (k + end))) n ∙ ap (frames (end - at) (k + at)) part_drop ∙ frames_moved k (end - at) at (part (drop k s) at end))
      ∙ among_map (moved k) (drop k s) at end (done clean) (done short) (frames (end - at) at (part (drop k s) at end))

  pub head_drop : head_at s (k + at) (k + end) ≡ moved_by k (head_at (drop k s) at end)
  unfolding head_at
  head_drop =
      among_drop (refused 5 0 0) (refused 5 0 0) (inner_of (k + at) (opened (part s (k + at) (k + end))))
      ∙ ap (among (drop k s) at end (refused 5 0 0) (refused 5 0 0)) (ap (λ (d : List ℕ). inner_of (k + at) (opened d)) part_drop ∙ inner_moved k at (opened (part (drop k s) at end)))
      ∙ among_map (moved_by k) (drop k s) at end (refused 5 0 0) (refused 5 0 0) (inner_of at (opened (part (drop k s) at end)))

-- ---- up to the place n
module _ (d : List ℕ) (at n : ℕ) (h : n ≤ length d) where
  part_take : part (take n d) at n ≡ part d at n
  part_take = ap (take (n - at)) (drop_part at n d) ∙ take-take (n - at) (n - at) (drop at d) (omega arith)

  among_take : {A : Type 0} (x y z : A) → among (take n d) at n x y z ≡ among d at n x y z
  among_take x y z =
      let l = length-take-le n d h in
      let m : n ≤ length (take n d) = omega arith in
      simp (le-ltb _ _ h, le-ltb _ _ m)

  pub walk_take : walk_in (take n d) at n ≡ walk_in d at n
  unfolding walk_in
  walk_take = among_take (done clean) (done short) (frames (n - at) at (part (take n d) at n)) ∙ ap (λ (x : List ℕ). among d at n (done clean) (done short) (frames (n - at) at x)) part_take

  pub head_take : head_at (take n d) at n ≡ head_at d at n
  unfolding head_at
  head_take = among_take (refused 5 0 0) (refused 5 0 0) (inner_of at (opened (part (take n d) at n))) ∙ ap (λ (x : List ℕ). among d at n (refused 5 0 0) (refused 5 0 0) (inner_of at (opened x))) part_take

module _ (s : List ℕ) (at : ℕ) where
  -- the walk from a place to the end
  pub rest_moved : at ≤ length s → walk_in s at (length s) ≡ moved at (walk_in (drop at s) 0 (length (drop at s)))
  rest_moved h =
      let z : length s ≡ at + length (drop at s) = simp length-drop (omega arith) in
      ap (λ (n : ℕ). walk_in s n (length s)) (sym (add-zero at)) ∙ ap (walk_in s (at + 0)) z ∙ walk_drop s at 0 (length (drop at s))

  moved_tlvs : (es : List Piece) → map (tlv_at s) (moved_items at es) ≡ map (tlv_at (drop at s)) es
  unfolding moved_items
  moved_tlvs [] = refl
  moved_tlvs (e ∷ es) =
      ap (λ (d : List ℕ). tlv e.ty (take e.len d) ∷ map (tlv_at s) (moved_items at es)) (sym (drop-drop e.start at s))
      ∙ ap (λ (l : List Tlv). tlv_at (drop at s) e ∷ l) (moved_tlvs es)

  came_moved : at ≤ length s → came_of s (walk_in s at (length s)) ≡ came_of (drop at s) (walk_in (drop at s) 0 (length (drop at s)))
  came_moved h =
      ap (came_of s) (rest_moved h)
      ∙ ap (λ (l : List Tlv). came l (walk_in (drop at s) 0 (length (drop at s))).stop) (moved_tlvs (walk_in (drop at s) 0 (length (drop at s))).items)

-- ---- what the walker comes by
comes_more : (k : ℕ) (s : List ℕ) → length s ≤ suc k → (f : SubTlv) → sub_answer f ≡ sub_in s 0 (length s)
    → ((d : List ℕ) → length d ≤ k → comes_by k d ≡ came_of d (walk_in d 0 (length d))) → finds s (sub_answer f) (comes_by k (after s (sub_answer f))) ≡ came_of s (walk_in s 0 (length s))
unfolding finds after
comes_more k s h End found go = ap (came_of s) (sym (turn_end s 0 (length s) End found refl))
comes_more k s h Cut found go = ap (came_of s) (sym (turn_cut s 0 (length s) Cut found refl))
comes_more k s h (Item t a n) found go =
    let i = turn_inside s 0 (length s) (Item t a n) found t a n refl in
    let l : length (drop (a + n) s) ≤ k = simp length-drop (omega arith) in
    ap (λ (x : Came). came (tlv t (take n (drop a s)) ∷ x.tlvs) x.stop) (go (drop (a + n) s) l ∙ sym (came_moved s (a + n) i.1))
    ∙ ap (came_of s) (sym (turn_item s 0 (length s) (Item t a n) found t a n refl))

comes_by_lem : (k : ℕ) (s : List ℕ) → length s ≤ k → comes_by k s ≡ came_of s (walk_in s 0 (length s))
unfolding comes_by rest_of
comes_by_lem zero s h = ap (came_of s) (sym (walk_end s 0 (length s) h))
comes_by_lem (suc k) s h =
    ap (λ (a : Answer Piece). finds s a (comes_by k (after s a))) (sym (sub_agrees s 0 (length s)))
    ∙ comes_more k s h (sub_place s 0 (length s)) (sub_agrees s 0 (length s)) (λ d l. comes_by_lem k d l)

-- the walker's TLVs, taken until its end, are the definition's, and end as those do
pub walker_items : (s : List ℕ) → comes_by (length s) s ≡ came_of s (walk_in s 0 (length s))
walker_items s = comes_by_lem (length s) s (omega arith)

nothing_left : (k : ℕ) → comes_by k [] ≡ came [] clean
unfolding comes_by finds sub_in
nothing_left zero = refl
nothing_left (suc k) = refl

-- after a cut it comes by nothing more: the end, never a second cut
pub walker_over : (s : List ℕ) → refused 5 0 0 ≡ sub_in s 0 (length s) → (k : ℕ) → comes_by k (rest_of s) ≡ came [] clean
unfolding rest_of after
walker_over s found k = ap (λ (x : Answer Piece). comes_by k (after s x)) (sym found) ∙ nothing_left k

-- ---- a turn of a loop that walks: what is left after the TLV that r found
module _ (s : List ℕ) (r : SubTlv) (found : sub_answer r ≡ sub_in s 0 (length s)) (t a n : ℕ) (e : r ≡ Item t a n) (left : List ℕ) (is : left ≡ rest_of s) where
  pub left_is : left ≡ drop (a + n) s
  left_is = is ∙ rest_item s r found t a n e

  pub left_less : length left < length s
  left_less =
      let l : length left ≡ length s - (a + n) = ap length left_is ∙ length-drop (a + n) s in
      omega (arith, turn_inside s 0 (length s) r found t a n e)

  pub left_walk : walk_in s 0 (length s) ≡ onto (piece t a n) (moved (a + n) (walk_in left 0 (length left)))
  left_walk = turn_item s 0 (length s) r found t a n e ∙ ap (onto (piece t a n)) (rw left_is (rest_moved s (a + n) (turn_inside s 0 (length s) r found t a n e).1))
