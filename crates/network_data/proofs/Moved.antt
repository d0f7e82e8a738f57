-- The bytes from a place on, or up to one, are checked as what stands between those places: so the loops go on with the bytes that the walker leaves.
-- Assumes nothing.
use mathlib.Core.Path.{◌≡◌, refl, sym, ap, ◌∙◌}
use mathlib.Core.List.{List, [], ◌∷◌}
use Prim.Native.Nat.{ℕ, ◌+◌, ◌-◌, ◌≤◌}
use native.Mathlib.Omega.{arith}
use native.Mathlib.Nat.{add-zero}
use lib.ListN.{length, get_or, take, drop, length-drop}
use lib.Seq.{take_all}
use lib.Dec.{eqb, leb, ltb}
use borrow.Author.Tests.{leb-false, ltb-false}
use Rattle.std.specs.Prelude.{Option, Some, None}
use Rattle.refusal.specs.Sizes.{most_prefixes}
use Rattle.refusal.specs.Answer.{pick, Answer, given, absent, refused, then_do}
use Rattle.laws.proofs.Tests.{pick_all}
use Rattle.laws.proofs.Parts.{length_part}
use Rattle.network_framing.specs.Tlvs.{Stop, Piece, piece, Walk, onto, bytes_for}
use Rattle.network_framing.specs.Frame.{sub_in, head_at, walk_in, sub_answer, head_answer}
use Rattle.network_framing.specs.Place.{head_place}
use Rattle.network_framing.proofs.Agrees.{head_agrees}
use Rattle.network_framing.proofs.Walks.{turn_inside}
use Rattle.network_walker.specs.Walker.{rest_of}
use Rattle.network_walker.proofs.Shifts.{moved_items, moved, moved_by, walk_drop, head_drop, walk_take, head_take, rest_moved, left_is, left_walk}
use Rattle.network_data.specs.Rules.{counts, rule, rules, check_in, check_head, check_prefix, values, check_from}
use Rattle.network_data.specs.declared.Counts.{Counts}
use Rattle.network_data.proofs.Passes.{in_more, in_refused, out_skip, out_more, out_refused}
use Rattle.network_framing.specs.declared.SubTlv.{SubTlv}
use Rattle.network_framing.specs.declared.SubTlv.TheVariants.{Item}

then_same : {A B : Type 0} (a : Answer A) (f g : A → Answer B) → ((x : A) → f x ≡ g x) → then_do a f ≡ then_do a g
then_same (given x) f g h = h x
then_same absent f g h = refl
then_same (refused n p i) f g h = refl

module _ (p : ℕ) where
  -- the inner TLVs are judged by their types and lengths
  rules_moved : (k : ℕ) (c : Counts) (st : Stop) (es : List Piece) → rules p c st (moved_items k es) ≡ rules p c st es
  unfolding rules moved_items
  rules_moved k c st [] = refl
  rules_moved k c st (e ∷ es) =
      then_same (rule p c e.ty e.len) (λ (d : Counts). rules p d st (moved_items k es)) (λ (d : Counts). rules p d st es) (λ d. rules_moved k d st es)

  in_moved : (k : ℕ) (c : Counts) (w : Walk) → check_in p c (moved k w) ≡ check_in p c w
  unfolding check_in
  in_moved k c w = rules_moved k c w.stop w.items

  module _ (s : List ℕ) (k : ℕ) where
    heads_drop : (c : Counts) (end : ℕ) (x : Answer ℕ) → check_head p s c (k + end) (moved_by k x) ≡ check_head p (drop k s) c end x
    unfolding check_head
    heads_drop c end absent = refl
    heads_drop c end (refused n q i) = refl
    heads_drop c end (given at) = ap (check_in p c) (walk_drop s k at end) ∙ in_moved k c (walk_in (drop k s) at end)

    prefix_drop : (c : Counts) (start end : ℕ) → check_prefix p s c (k + start) (k + end) ≡ check_prefix p (drop k s) c start end
    unfolding check_prefix
    prefix_drop c start end =
        let d = counts (c.prefixes + 1) c.has_routes c.border_routers in
        ap (pick (leb most_prefixes c.prefixes) (refused 12 p 0)) (ap (check_head p s d (k + end)) (head_drop s k start end) ∙ heads_drop d end (head_at (drop k s) start end))

    values_moved : (c : Counts) (st : Stop) (es : List Piece) → values p s c st (moved_items k es) ≡ values p (drop k s) c st es
    unfolding values moved_items
    values_moved c st [] = refl
    values_moved c st (e ∷ es) =
        let z : k + e.start + e.len ≡ k + (e.start + e.len) = omega arith in
        ap (λ (n : ℕ). then_do (pick (eqb e.ty 1) (check_prefix p s c (k + e.start) n) (given c)) (λ (d : Counts). values p s d st (moved_items k es))) z
        ∙ ap (λ (a : Answer Counts). then_do (pick (eqb e.ty 1) a (given c)) (λ (d : Counts). values p s d st (moved_items k es))) (prefix_drop c e.start (e.start + e.len))
        ∙ then_same (pick (eqb e.ty 1) (check_prefix p (drop k s) c e.start (e.start + e.len)) (given c)) (λ (d : Counts). values p s d st (moved_items k es)) (λ (d : Counts). values p (drop k s) d st es)
        (λ d. values_moved d st es)

    from_moved : (c : Counts) (w : Walk) → check_from p s c (moved k w) ≡ check_from p (drop k s) c w
    unfolding check_from
    from_moved c w = values_moved c w.stop w.items

  module _ (d : List ℕ) (n : ℕ) (h : n ≤ length d) where
    heads_take : (c : Counts) (x : Answer ℕ) → check_head p (take n d) c n x ≡ check_head p d c n x
    unfolding check_head
    heads_take c absent = refl
    heads_take c (refused m q i) = refl
    heads_take c (given at) = ap (check_in p c) (walk_take d at n h)

    prefix_take : (c : Counts) (at : ℕ) → check_prefix p (take n d) c at n ≡ check_prefix p d c at n
    unfolding check_prefix
    prefix_take c at =
        let e = counts (c.prefixes + 1) c.has_routes c.border_routers in
        ap (pick (leb most_prefixes c.prefixes) (refused 12 p 0)) (ap (check_head p (take n d) e n) (head_take d at n h) ∙ heads_take e (head_at d at n))

  -- a prefix by its value, as the code cuts it out
  prefix_value : (s : List ℕ) (c : Counts) (a n : ℕ) → a + n ≤ length s
      → check_prefix p (take (a + n - a) (drop a s)) c 0 (length (take (a + n - a) (drop a s))) ≡ check_prefix p s c a (a + n)
  prefix_value s c a n h =
      let z : a + n - a ≡ n = omega arith in
      let l : n ≤ length (drop a s) = simp length-drop (omega arith) in
      rw (z, length_part s a n h) (prefix_take (drop a s) n l c 0 ∙ sym (prefix_drop s a c 0 n) ∙ ap (λ (x : ℕ). check_prefix p s c x (a + n)) (add-zero a))

-- a prefix's inner TLVs begin before its end
abbrev Begins : (end : ℕ) → Answer ℕ → Type 0
Begins end (given at) = at ≤ end
Begins end absent = Unit {0}
Begins end (refused n p i) = Unit {0}

begins : (s : List ℕ) (start end : ℕ) → Begins end (head_answer (head_place s start end))
unfolding head_place
begins s start end =
    pick_all (λ (h : Option ℕ). Begins end (head_answer h)) (leb end start) None _ (λ e. tt) (λ e1.
    pick_all (λ (h : Option ℕ). Begins end (head_answer h)) (ltb (length s) end) None _ (λ e. tt) (λ e2.
    pick_all (λ (h : Option ℕ). Begins end (head_answer h)) (ltb (end - start) 2) None _ (λ e. tt) (λ e3.
    pick_all (λ (h : Option ℕ). Begins end (head_answer h)) (ltb (end - start) (2 + bytes_for (get_or s (start + 1) 0))) None _ (λ e. tt)
    (λ e4. omega (arith, leb-false end start e1, ltb-false (end - start) (2 + bytes_for (get_or s (start + 1) 0)) e4)))))

pub head_begins : (s : List ℕ) (start end at : ℕ) (r : Option ℕ) → head_answer r ≡ head_at s start end → r ≡ Some at → at ≤ end
head_begins s start end at r told e = rw (head_agrees s start end ∙ sym told ∙ ap head_answer e) at (begins s start end)

counts_are : (d : Counts) (n h b : ℕ) → d.prefixes ≡ n → d.has_routes ≡ h → d.border_routers ≡ b → d ≡ counts n h b
counts_are d n h b x y z =
    ap (λ (k : ℕ). counts k d.has_routes d.border_routers) x ∙ ap (λ (k : ℕ). counts n k d.border_routers) y ∙ ap (counts n h) z

-- the inner TLVs by themselves, as the code cuts them out, and after one prefix more
pub inner_value : (p : ℕ) (s : List ℕ) (at : ℕ) (r : Option ℕ) → head_answer r ≡ head_at s 0 (length s) → r ≡ Some at
    → (c d : Counts) → d.prefixes ≡ c.prefixes + 1 → d.has_routes ≡ c.has_routes → d.border_routers ≡ c.border_routers
    → check_in p d (walk_in (take (length s - at) (drop at s)) 0 (length (take (length s - at) (drop at s))))
    ≡ check_in p (counts (c.prefixes + 1) c.has_routes c.border_routers) (walk_in s at (length s))
inner_value p s at r told e c d x y z =
    let h = head_begins s 0 (length s) at r told e in
    let all = take_all (length s - at) (drop at s) (simp length-drop (omega arith)) in
    rw all
    (sym (ap (check_in p d) (rest_moved s at h) ∙ in_moved p at d (walk_in (drop at s) 0 (length (drop at s))))
    ∙ ap (λ (k : Counts). check_in p k (walk_in s at (length s))) (counts_are d _ _ _ x y z))

-- ---- a turn of a loop that walks: what is checked of s is what is checked of the TLV that r found, and then of what is left
module _ (p : ℕ) (c : Counts) (s : List ℕ) (r : SubTlv) (found : sub_answer r ≡ sub_in s 0 (length s)) (t a n : ℕ) (e : r ≡ Item t a n) (left : List ℕ) (is : left ≡ rest_of s) where
  abbrev after : Walk
  after = moved (a + n) (walk_in left 0 (length left))

  in_turn : check_in p c (walk_in s 0 (length s)) ≡ check_in p c (onto (piece t a n) after)
  in_turn = ap (check_in p c) (left_walk s r found t a n e left is)

  pub inner_more : (d : Counts) → given d ≡ rule p c t n → check_in p d (walk_in left 0 (length left)) ≡ check_in p c (walk_in s 0 (length s))
  inner_more d h = sym (in_turn ∙ in_more p c (piece t a n) after d h ∙ in_moved p (a + n) d (walk_in left 0 (length left)))

  pub inner_refused : (m q i : ℕ) → refused m q i ≡ rule p c t n → refused m q i ≡ check_in p c (walk_in s 0 (length s))
  inner_refused m q i h = sym (in_turn ∙ in_refused p c (piece t a n) after m q i h)

  out_turn : check_from p s c (walk_in s 0 (length s)) ≡ check_from p s c (onto (piece t a n) after)
  out_turn = ap (check_from p s c) (left_walk s r found t a n e left is)

  goes_on : (d : Counts) → check_from p s d after ≡ check_from p left d (walk_in left 0 (length left))
  goes_on d = from_moved p s (a + n) d (walk_in left 0 (length left)) ∙ ap (λ (x : List ℕ). check_from p x d (walk_in left 0 (length left))) (sym (left_is s r found t a n e left is))

  pub items_skip : (t ≡ 1 → ⊥) → check_from p left c (walk_in left 0 (length left)) ≡ check_from p s c (walk_in s 0 (length s))
  items_skip h = sym (out_turn ∙ out_skip p c s (piece t a n) after h ∙ goes_on c)

  -- the prefix by its value, as the code cuts it out
  by_value : check_prefix p (take (a + n - a) (drop a s)) c 0 (length (take (a + n - a) (drop a s))) ≡ check_prefix p s c a (a + n)
  by_value = prefix_value p s c a n (turn_inside s 0 (length s) r found t a n e).1

  pub items_more : t ≡ 1 → (d : Counts) → given d ≡ check_prefix p (take (a + n - a) (drop a s)) c 0 (length (take (a + n - a) (drop a s)))
      → check_from p left d (walk_in left 0 (length left)) ≡ check_from p s c (walk_in s 0 (length s))
  items_more h d q = sym (out_turn ∙ out_more p c s (piece t a n) after h d (q ∙ by_value) ∙ goes_on d)

  pub items_refused : t ≡ 1 → (m q i : ℕ) → refused m q i ≡ check_prefix p (take (a + n - a) (drop a s)) c 0 (length (take (a + n - a) (drop a s)))
      → refused m q i ≡ check_from p s c (walk_in s 0 (length s))
  items_refused h m q i x = sym (out_turn ∙ out_refused p c s (piece t a n) after h m q i (x ∙ by_value))
