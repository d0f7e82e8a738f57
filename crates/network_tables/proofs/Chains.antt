-- The TLVs of a walk follow each other; the prefixes among them are those that the cursor finds; and those of a checked value are whole.
-- Assumes nothing.
use mathlib.Core.Path.{◌≡◌, refl, sym, ap, ◌∙◌, subst}
use mathlib.Core.Bool.{Bool, true, false}
use mathlib.Core.List.{List, [], ◌∷◌, ◌++◌, map}
use Prim.Native.Nat.{ℕ, suc, ◌+◌, ◌-◌, ◌<◌, ◌≤◌}
use native.Mathlib.Omega.{arith}
use lib.ListN.{length, get_or}
use lib.Dec.{eqb, ltb, leb}
use borrow.Author.Tests.{ltb-false}
use Rattle.tables.specs.Tab.{tab, steps}
use Rattle.std.specs.Prelude.{Option, Some, None}
use Rattle.refusal.specs.Answer.{pick, Answer, given, absent, refused, then_do}
use Rattle.network_framing.specs.Tlvs.{bytes_for, Walk, Stop, Piece, piece}
use Rattle.network_framing.specs.Frame.{sub_in, head_at, walk_in, sub_answer, head_answer}
use Rattle.network_framing.specs.Place.{sub_place, head_place}
use Rattle.network_data.specs.Rules.{counts, ended, check_in, check_head, check_prefix, values, check_from, check_value}
use Rattle.network_data.specs.Decode.{prefix_at, prefixes, contents, entry_of}
use Rattle.network_tables.specs.Cursor.{span_of, Whole, SpanHere, entry_at, span_end}
use Rattle.network_framing.specs.declared.SubTlv.{SubTlv}
use Rattle.network_framing.specs.declared.SubTlv.TheVariants.{Item, Cut, End}
use Rattle.network_data.specs.declared.Counts.{Counts}
use Rattle.network_tables.specs.declared.prefixes.Span.{Span}
use Rattle.network_data.specs.declared.PrefixEntry.{PrefixEntry}
use Rattle.laws.proofs.Tests.{pick_all, by_test}
use Rattle.refusal.specs.Sizes.{most_prefixes}
use Rattle.network_framing.proofs.Agrees.{sub_agrees, head_agrees}
use Rattle.network_framing.proofs.Walks.{turn_end, turn_cut, turn_items, turn_inside}
use Rattle.tables.proofs.Follows.{follows, reaches}

-- after the first TLV of a walk comes the walk from its end
abbrev pub Next : List ℕ → (at end : ℕ) → Piece → List Piece → Type 0
Next s at end e es = (es ≡ (walk_in s (e.start + e.len) end).items) × (at + 2 ≤ e.start) × (e.start + e.len ≤ end)

chain_by : (s : List ℕ) (at end : ℕ) (r : SubTlv) → sub_answer r ≡ sub_in s at end → (e : Piece) (es : List Piece) → e ∷ es ≡ (walk_in s at end).items → Next s at end e es
chain_by s at end End f e es h =
    let w = ap (λ (x : Walk). x.items) (turn_end s at end End f refl) in
    absurd (let z : ◌≡◌ {A = ℕ} 0 1 = cc in omega arith)
chain_by s at end Cut f e es h =
    let w = ap (λ (x : Walk). x.items) (turn_cut s at end Cut f refl) in
    absurd (let z : ◌≡◌ {A = ℕ} 0 1 = cc in omega arith)
chain_by s at end (Item t a n) f e es h =
    let w = turn_items s at end (Item t a n) f t a n refl in
    let i = turn_inside s at end (Item t a n) f t a n refl in
    let x : piece t a n ≡ e = cc in
    let y : (walk_in s (a + n) end).items ≡ es = cc in
    subst (λ (p : Piece). Next s at end p es) x (sym y, i.0, i.1)

pub chain : (s : List ℕ) (at end : ℕ) (e : Piece) (es : List Piece) → e ∷ es ≡ (walk_in s at end).items → Next s at end e es
chain s at end e es h = chain_by s at end (sub_place s at end) (sub_agrees s at end) e es h

-- ---- the prefixes
unfoldable pub only : List Piece → List Piece
only [] = []
only (e ∷ es) = pick (eqb e.ty 1) (e ∷ []) [] ++ only es

abbrev span : Piece → Span
span e = record { start = e.start; end = e.start + e.len }

-- every prefix is whole
abbrev pub Heads : List ℕ → List Piece → Type 0
Heads s [] = Unit {0}
Heads s (e ∷ es) = (eqb e.ty 1 ≡ true → Whole s (span e)) × Heads s es

abbrev Found : List ℕ → List Piece → Piece → List Piece → Type 0
Found s es x xs = (span_of es ≡ span x) × (only (walk_in s (x.start + x.len) (length s)).items ≡ xs) × Heads s (walk_in s (x.start + x.len) (length s)).items × Whole s (span x)

find : (s : List ℕ) (es : List Piece) (at : ℕ) → es ≡ (walk_in s at (length s)).items → Heads s es → (x : Piece) (xs : List Piece) → only es ≡ x ∷ xs → Found s es x xs
unfolding only span_of
find s [] at w h x xs e = absurd (let z : ◌≡◌ {A = ℕ} 0 1 = cc in omega arith)
find s (p ∷ es) at w h x xs e =
    by_test (eqb p.ty 1)
    (λ t.
    let n = chain s at (length s) p es w in
    let e' : p ∷ only es ≡ x ∷ xs = simp t at e in
    let a : p ≡ x = cc in
    let b : only es ≡ xs = cc in
    subst (λ (q : Piece). Found s (p ∷ es) q xs) a
    (simp t, ap only (sym n.0) ∙ b, subst (Heads s) n.0 h.1, h.0 t))
    (λ t.
    let n = chain s at (length s) p es w in
    let f = find s es (p.start + p.len) n.0 h.1 x xs (simp t at e) in
    (simp t f.0, f.1, f.2, f.3))

module _ (s : List ℕ) where
  abbrev HeadsAt : ℕ → Type 0
  HeadsAt c = Heads s (walk_in s c (length s)).items

  abbrev entry : Piece → PrefixEntry
  entry e = entry_of (prefix_at s e.start (e.start + e.len))

  one : (c : ℕ) → HeadsAt c → (x : Piece) (xs : List Piece) → only (walk_in s c (length s)).items ≡ x ∷ xs
      → (entry_at s c ≡ entry x) × (only (walk_in s (span_end s c) (length s)).items ≡ xs) × HeadsAt (span_end s c) × SpanHere s c
  one c h x xs e =
      let f = find s (walk_in s c (length s)).items c refl h x xs e in (
        ap (λ (y : Span). entry_of (prefix_at s y.start y.end)) f.0,
        subst (λ (y : Span). only (walk_in s y.end (length s)).items ≡ xs) (sym f.0) f.1,
        subst (λ (y : Span). Heads s (walk_in s y.end (length s)).items) (sym f.0) f.2,
        subst (Whole s) (sym f.0) f.3,
      )

  entries_only : (es : List Piece) → map entry (only es) ≡ map entry_of (prefixes s es)
  unfolding only prefixes
  entries_only [] = refl
  entries_only (e ∷ es) = by_test (eqb e.ty 1) (λ t. simp t (ap (λ (l : List PrefixEntry). entry e ∷ l) (entries_only es))) (λ t. simp t (entries_only es))

  only_length : (es : List Piece) → length (only es) ≡ length (prefixes s es)
  unfolding only prefixes
  only_length [] = refl
  only_length (e ∷ es) = by_test (eqb e.ty 1) (λ t. simp t (ap suc (only_length es))) (λ t. simp t (only_length es))

  module _ (h : HeadsAt 0) where
    pub prefix_rows : tab (λ i. entry_at s (steps (span_end s) i 0)) (length (contents s)) ≡ map entry_of (contents s)
    unfolding contents
    prefix_rows = rw (← only_length (walk_in s 0 (length s)).items) (follows (span_end s) (entry_at s) entry HeadsAt (SpanHere s) (λ c. only (walk_in s c (length s)).items) one _ 0 h refl) ∙ entries_only (walk_in s 0 (length s)).items

    pub prefix_here : (i : ℕ) → i < length (contents s) → SpanHere s (steps (span_end s) i 0)
    unfolding contents
    prefix_here i l = reaches (span_end s) (entry_at s) entry HeadsAt (SpanHere s) (λ c. only (walk_in s c (length s)).items) one _ 0 h refl i (omega (arith, only_length (walk_in s 0 (length s)).items))

-- ---- the prefixes of a value that passes the check are whole
abbrev Passed : Type 0 → Answer Counts → Type 0
Passed G (given d) = G
Passed G absent = Unit {0}
Passed G (refused n p i) = Unit {0}

abbrev Fits : List ℕ → (start end : ℕ) → Answer ℕ → Type 0
Fits s start end (given at) = start + (2 + bytes_for (get_or s (start + 1) 0)) ≤ end
Fits s start end absent = Unit {0}
Fits s start end (refused n p i) = Unit {0}

place_fits : (s : List ℕ) (start end : ℕ) → Fits s start end (head_answer (head_place s start end))
unfolding head_place
place_fits s start end =
    let P : Option ℕ → Type 0 = λ x. Fits s start end (head_answer x) in
    pick_all P (leb end start) None _ (λ _. tt) (λ e0.
    pick_all P (ltb (length s) end) None _ (λ _. tt) (λ e1.
    pick_all P (ltb (end - start) 2) None _ (λ _. tt) (λ e2.
    pick_all P (ltb (end - start) (2 + bytes_for (get_or s (start + 1) 0))) None (Some _) (λ _. tt) (λ e3. omega (arith, ltb-false)))))

head_fits : (s : List ℕ) (start end : ℕ) → Fits s start end (head_at s start end)
head_fits s start end = subst (Fits s start end) (head_agrees s start end) (place_fits s start end)

module _ (p : ℕ) (s : List ℕ) where
  weaker : (G G' : Type 0) (a : Answer Counts) → (G → G') → Passed G a → Passed G' a
  weaker G G' (given d) f h = f h
  weaker G G' absent f h = tt
  weaker G G' (refused n q i) f h = tt

  then_passed : (G G' : Type 0) (a : Answer Counts) (f : Counts → Answer Counts) → Passed G a → ((d : Counts) → Passed G' (f d)) → Passed (G × G') (then_do a f)
  then_passed G G' (given d) f g h = weaker G' (G × G') (f d) (λ x. (g, x)) (h d)
  then_passed G G' absent f g h = tt
  then_passed G G' (refused n q i) f g h = tt

  any : (G : Type 0) (a : Answer Counts) → G → Passed G a
  any G (given d) g = g
  any G absent g = tt
  any G (refused n q i) g = tt

  head_passed : (c : Counts) (start end : ℕ) (x : Answer ℕ) → end ≤ length s → Fits s start end x → Passed (Whole s (record { start = start; end = end })) (check_head p s c end x)
  unfolding check_head
  head_passed c start end absent l f = tt
  head_passed c start end (refused n q i) l f = tt
  head_passed c start end (given at) l f = any (Whole s (record { start = start; end = end })) (check_in p c (walk_in s at end)) (f, l)

  prefix_passed : (c : Counts) (start end : ℕ) → end ≤ length s → Passed (Whole s (record { start = start; end = end })) (check_prefix p s c start end)
  unfolding check_prefix
  prefix_passed c start end l =
      pick_all (Passed _) (leb most_prefixes c.prefixes) (refused _ p 0) _ (λ _. tt) (λ _. head_passed _ start end (head_at s start end) l (head_fits s start end))

  values_passed : (c : Counts) (st : Stop) (es : List Piece) (at : ℕ) → es ≡ (walk_in s at (length s)).items → Passed (Heads s es) (values p s c st es)
  unfolding values
  values_passed c st [] at w = any (Unit {0}) (ended p c st) tt
  values_passed c st (e ∷ es) at w =
      let n = chain s at (length s) e es w in
      then_passed (eqb e.ty 1 ≡ true → Whole s (span e)) (Heads s es) (pick (eqb e.ty 1) (check_prefix p s c e.start (e.start + e.len)) (given c)) (λ d. values p s d st es)
      (pick_all (Passed (eqb e.ty 1 ≡ true → Whole s (span e))) (eqb e.ty 1) (check_prefix p s c e.start (e.start + e.len)) (given c)
      (λ t. weaker (Whole s (span e)) (eqb e.ty 1 ≡ true → Whole s (span e)) (check_prefix p s c e.start (e.start + e.len)) (λ x _. x) (prefix_passed c e.start (e.start + e.len) n.2))
      (λ t u. absurd (let z : ◌≡◌ {A = Bool} true false = sym u ∙ t in let y : ◌≡◌ {A = ℕ} 0 1 = cc in omega arith)))
      (λ d. values_passed d st es (e.start + e.len) n.0)

  pub checked_heads : (d : Counts) → given d ≡ check_value p s → Heads s (walk_in s 0 (length s)).items
  unfolding check_value check_from
  checked_heads d e = subst (Passed (Heads s (walk_in s 0 (length s)).items)) (sym e) (values_passed (counts 0 0 0) (walk_in s 0 (length s)).stop (walk_in s 0 (length s)).items 0 refl)
