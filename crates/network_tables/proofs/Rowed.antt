-- The rows that a cursor comes by are those of the definition, in order, and each lies within the value.
-- Assumes nothing.
use mathlib.Core.Path.{◌≡◌, refl, sym, ap, ◌∙◌}
use mathlib.Core.List.{List, [], ◌∷◌, ◌++◌, map, append_assoc}
use Prim.Native.Nat.{ℕ, zero, suc, ◌+◌, ◌-◌, ◌*◌, ◌/◌, ◌<◌, ◌≤◌}
use native.Mathlib.Omega.{arith}
use native.Mathlib.Nat.{mul-div-le, mul-zero, mul-suc}
use lib.ListN.{length, length-map}
use lib.Dec.{eqb}
use borrow.Author.Tests.{eqb-true, eqb-false, eq-eqb, ne_eqb, lt-ltb}
use Rattle.tables.specs.Tab.{tab, steps}
use Rattle.refusal.specs.Answer.{pick, Answer, given, absent, refused}
use Rattle.network_framing.specs.Tlvs.{Piece}
use Rattle.network_framing.specs.Frame.{walk_in, head_at}
use Rattle.network_data.specs.Decode.{row_places, places_in, head_items, inner, prefix_at, prefixes, contents, route_at, border_at, all_routes, all_borders}
use Rattle.network_tables.specs.Cursor.{rows, or_else, rows_in, rows_out, first_row, next_row, RowHere, route_of, border_of}
use Rattle.network_tables.specs.declared.rows.Rows.{Rows}
use Rattle.network_data.specs.declared.HasRouteEntry.{HasRouteEntry}
use Rattle.network_data.specs.declared.BorderRouterEntry.{BorderRouterEntry}
use Rattle.laws.proofs.Tests.{pick_all, by_test}
use Rattle.network_tables.proofs.Seeks.{or_first, or_second, in_miss, in_hit, in_none}
use Rattle.network_tables.proofs.Chains.{chain}
use Rattle.tables.proofs.Follows.{follows, reaches}

-- the places of all rows of a kind
unfoldable pub places_out : (ty size : ℕ) → List ℕ → List Piece → List ℕ
places_out ty size s [] = []
places_out ty size s (e ∷ es) = pick (eqb e.ty 1) (places_in ty size (inner s e.start (e.start + e.len))) [] ++ places_out ty size s es

-- the places that a cursor has before it
abbrev rest : (ty size : ℕ) → List ℕ → (stop end : ℕ) → List ℕ
rest ty size s stop end = places_in ty size (walk_in s stop end).items ++ places_out ty size s (walk_in s end (length s)).items

unfoldable comes : (ty size : ℕ) → List ℕ → Rows → List ℕ
comes ty size s c = pick (eqb c.left 0) [] (row_places size c.at c.left ++ rest ty size s c.stop c.end)

-- where a cursor may stand
abbrev Good : ℕ → List ℕ → Rows → Type 0
Good size s c = (c.at + size * c.left ≤ length s) × (c.end ≤ length s)

module _ (ty size : ℕ) (s : List ℕ) where
  comes_none : (c : Rows) → c.left ≡ 0 → comes ty size s c ≡ []
  unfolding comes
  comes_none c e = simp (eq-eqb _ _ e)

  comes_some : (c : Rows) → 0 < c.left → comes ty size s c ≡ row_places size c.at c.left ++ rest ty size s c.stop c.end
  unfolding comes
  comes_some c l = simp (ne_eqb c.left 0 (λ (z : c.left ≡ 0). omega arith))

  none_good : Good size s (rows 0 0 0 0)
  none_good = (simp mul-zero (omega arith), omega arith)

  or_good : (c d : Rows) → Good size s c → Good size s d → Good size s (or_else c d)
  unfolding or_else
  or_good c d g h = pick_all (Good size s) (eqb c.left 0) d c (λ _. h) (λ _. g)

  -- ---- in a prefix
  in_good : (end : ℕ) → end ≤ length s → (es : List Piece) (at : ℕ) → es ≡ (walk_in s at end).items → Good size s (rows_in ty size end es)
  unfolding rows_in
  in_good end l [] at w = none_good
  in_good end l (e ∷ es) at w =
      let n = chain s at end e es w in
      let g = in_good end l es (e.start + e.len) n.0 in
      pick_all (Good size s) (eqb e.ty ty) _ _
      (λ _. or_good (rows e.start (e.len / size) (e.start + e.len) end) (rows_in ty size end es) (omega (arith, mul-div-le e.len size), l) g)
      (λ _. g)

  module _ (end : ℕ) (d : Rows) (goes_on : comes ty size s d ≡ places_out ty size s (walk_in s end (length s)).items) where
    in_comes : (es : List Piece) (at : ℕ) → es ≡ (walk_in s at end).items → comes ty size s (or_else (rows_in ty size end es) d) ≡ places_in ty size es ++ comes ty size s d
    unfolding places_in rows_in row_places
    in_comes [] at w = ap (comes ty size s) (or_second (rows 0 0 0 0) d (omega arith))
    in_comes (e ∷ es) at w =
        let n = chain s at end e es w in
        let go = in_comes es (e.start + e.len) n.0 in
        by_test (eqb e.ty ty)
        (λ t. by_test (eqb (e.len / size) 0)
        (λ z.
        let z' : e.len / size ≡ 0 = eqb-true _ _ z in
        rw (in_none ty size end e es (eqb-true _ _ t) (omega arith)) (simp (t, z') go))
        (λ z.
        let p : 0 < e.len / size = omega (arith, eqb-false (e.len / size) 0 z) in
        let c = rows e.start (e.len / size) (e.start + e.len) end in
        rw (in_hit ty size end e es (eqb-true _ _ t) p)
        (ap (comes ty size s) (or_first c d p) ∙ comes_some c p
        ∙ simp (t, sym n.0, sym goes_on, append_assoc))))
        (λ t. rw (in_miss ty size end e es (eqb-false _ _ t)) (simp t go))

    head_comes : (x : Answer ℕ) → comes ty size s (or_else (rows_in ty size end (head_items s end x)) d) ≡ places_in ty size (head_items s end x) ++ comes ty size s d
    unfolding head_items places_in rows_in
    head_comes absent = ap (comes ty size s) (or_second (rows 0 0 0 0) d (omega arith))
    head_comes (refused n p i) = ap (comes ty size s) (or_second (rows 0 0 0 0) d (omega arith))
    head_comes (given at) = in_comes (walk_in s at end).items at refl

  head_good : (end : ℕ) → end ≤ length s → (x : Answer ℕ) → Good size s (rows_in ty size end (head_items s end x))
  unfolding head_items rows_in
  head_good end l absent = none_good
  head_good end l (refused n p i) = none_good
  head_good end l (given at) = in_good end l (walk_in s at end).items at refl

  -- ---- in a value
  out_good : (es : List Piece) (at : ℕ) → es ≡ (walk_in s at (length s)).items → Good size s (rows_out ty size s es)
  unfolding rows_out inner
  out_good [] at w = none_good
  out_good (e ∷ es) at w =
      let n = chain s at (length s) e es w in
      let g = out_good es (e.start + e.len) n.0 in
      pick_all (Good size s) (eqb e.ty 1) _ _
      (λ _. or_good (rows_in ty size (e.start + e.len) (head_items s (e.start + e.len) (head_at s e.start (e.start + e.len)))) (rows_out ty size s es) (head_good (e.start + e.len) n.2 (head_at s e.start (e.start + e.len))) g)
      (λ _. g)

  out_comes : (es : List Piece) (at : ℕ) → es ≡ (walk_in s at (length s)).items → comes ty size s (rows_out ty size s es) ≡ places_out ty size s es
  unfolding rows_out places_out inner
  out_comes [] at w = comes_none (rows 0 0 0 0) refl
  out_comes (e ∷ es) at w =
      let n = chain s at (length s) e es w in
      let go = out_comes es (e.start + e.len) n.0 in
      by_test (eqb e.ty 1)
      (λ t. simp t
      (head_comes (e.start + e.len) (rows_out ty size s es) (go ∙ ap (places_out ty size s) n.0) (head_at s e.start (e.start + e.len))
      ∙ ap (λ (l : List ℕ). places_in ty size (head_items s (e.start + e.len) (head_at s e.start (e.start + e.len))) ++ l) go))
      (λ t. simp t go)

  -- ---- a step of the cursor
  abbrev Stepped : Rows → ℕ → List ℕ → Type 0
  Stepped c x xs = (c.at ≡ x) × (comes ty size s (next_row ty size s c) ≡ xs) × Good size s (next_row ty size s c) × RowHere size s c

  stepped : (a n b e : ℕ) → Good size s (rows a n b e) → (x : ℕ) (xs : List ℕ) → comes ty size s (rows a n b e) ≡ x ∷ xs → Stepped (rows a n b e) x xs
  unfolding next_row row_places
  stepped a zero b e g x xs h =
      let w = comes_none (rows a zero b e) refl in
      absurd (let z : ◌≡◌ {A = ℕ} 0 1 = cc in omega arith)
  stepped a (suc zero) b e g x xs h =
      let w : comes ty size s (rows a (suc zero) b e) ≡ a ∷ rest ty size s b e = comes_some (rows a (suc zero) b e) (omega arith) in
      let p : a ≡ x = cc in
      let q : rest ty size s b e ≡ xs = cc in
      let d = rows_out ty size s (walk_in s e (length s)).items in
      let o = out_comes (walk_in s e (length s)).items e refl in (
        p,
        (in_comes e d o (walk_in s b e).items b refl ∙ ap (λ (l : List ℕ). places_in ty size (walk_in s b e).items ++ l) o ∙ q),
        (or_good (rows_in ty size e (walk_in s b e).items) d (in_good e g.1 (walk_in s b e).items b refl) (out_good (walk_in s e (length s)).items e refl)),
        (omega (arith, mul-suc size 0, mul-zero size), g.1),
      )
  stepped a (suc (suc j)) b e g x xs h =
      let w : comes ty size s (rows a (suc (suc j)) b e) ≡ a ∷ (row_places size (a + size) (suc j) ++ rest ty size s b e) = comes_some (rows a (suc (suc j)) b e) (omega arith) in
      let p : a ≡ x = cc in
      let q : row_places size (a + size) (suc j) ++ rest ty size s b e ≡ xs = cc in
      let k : suc (suc j) - 1 ≡ suc j = omega arith in (
        p,
        simp (lt-ltb 1 (suc (suc j)) (omega arith), k) (comes_some (rows (a + size) (suc j) b e) (omega arith) ∙ q),
        simp (lt-ltb 1 (suc (suc j)) (omega arith), k) (omega (arith, mul-suc size (suc j)), g.1),
        (omega (arith, mul-suc size (suc j)), g.1),
      )

  module _ {D : Type 0} (row : ℕ → D) where
    one : (c : Rows) → Good size s c → (x : ℕ) (xs : List ℕ) → comes ty size s c ≡ x ∷ xs → (row c.at ≡ row x) × (comes ty size s (next_row ty size s c) ≡ xs) × Good size s (next_row ty size s c) × RowHere size s c
    one c g x xs e = let o = stepped c.at c.left c.stop c.end g x xs e in (ap row o.0, o.1, o.2, o.3)

    abbrev all : List ℕ
    all = places_out ty size s (walk_in s 0 (length s)).items

    rows_all : tab (λ i. row (steps (next_row ty size s) i (first_row ty size s)).at) (length all) ≡ map row all
    rows_all = follows (next_row ty size s) (λ (c : Rows). row c.at) row (Good size s) (RowHere size s) (comes ty size s) one all (first_row ty size s) (out_good (walk_in s 0 (length s)).items 0 refl) (out_comes (walk_in s 0 (length s)).items 0 refl)

    rows_here : (i : ℕ) → i < length all → RowHere size s (steps (next_row ty size s) i (first_row ty size s))
    rows_here = reaches (next_row ty size s) (λ (c : Rows). row c.at) row (Good size s) (RowHere size s) (comes ty size s) one all (first_row ty size s) (out_good (walk_in s 0 (length s)).items 0 refl) (out_comes (walk_in s 0 (length s)).items 0 refl)

-- ---- the rows of the definition
map_append : {A B : Type 0} (f : A → B) (xs ys : List A) → map f (xs ++ ys) ≡ map f xs ++ map f ys
map_append f [] ys = refl
map_append f (x ∷ xs) ys = ap (λ l. f x ∷ l) (map_append f xs ys)

module _ (s : List ℕ) where
  routes_places : (es : List Piece) → all_routes (prefixes s es) ≡ map (route_at s) (places_out 0 3 s es)
  unfolding all_routes prefixes places_out prefix_at
  routes_places [] = refl
  routes_places (e ∷ es) =
      by_test (eqb e.ty 1)
      (λ t. simp t (ap (λ (l : List HasRouteEntry). map (route_at s) (places_in 0 3 (inner s e.start (e.start + e.len))) ++ l) (routes_places es) ∙ sym (map_append (route_at s) (places_in 0 3 (inner s e.start (e.start + e.len))) (places_out 0 3 s es))))
      (λ t. simp t (routes_places es))

  borders_places : (es : List Piece) → all_borders (prefixes s es) ≡ map (border_at s) (places_out 2 4 s es)
  unfolding all_borders prefixes places_out prefix_at
  borders_places [] = refl
  borders_places (e ∷ es) =
      by_test (eqb e.ty 1)
      (λ t. simp t (ap (λ (l : List BorderRouterEntry). map (border_at s) (places_in 2 4 (inner s e.start (e.start + e.len))) ++ l) (borders_places es) ∙ sym (map_append (border_at s) (places_in 2 4 (inner s e.start (e.start + e.len))) (places_out 2 4 s es))))
      (λ t. simp t (borders_places es))

  routes_length : length (all_routes (contents s)) ≡ length (places_out 0 3 s (walk_in s 0 (length s)).items)
  unfolding contents
  routes_length = ap length (routes_places (walk_in s 0 (length s)).items) ∙ simp length-map

  borders_length : length (all_borders (contents s)) ≡ length (places_out 2 4 s (walk_in s 0 (length s)).items)
  unfolding contents
  borders_length = ap length (borders_places (walk_in s 0 (length s)).items) ∙ simp length-map

  pub route_rows : tab (λ i. route_of s (steps (next_row 0 3 s) i (first_row 0 3 s))) (length (all_routes (contents s))) ≡ all_routes (contents s)
  unfolding contents
  route_rows = ap (tab _) routes_length ∙ rows_all 0 3 s (route_at s) ∙ sym (routes_places (walk_in s 0 (length s)).items)

  pub route_here : (i : ℕ) → i < length (all_routes (contents s)) → RowHere 3 s (steps (next_row 0 3 s) i (first_row 0 3 s))
  route_here i l = rows_here 0 3 s (route_at s) i (omega (arith, routes_length))

  pub border_rows : tab (λ i. border_of s (steps (next_row 2 4 s) i (first_row 2 4 s))) (length (all_borders (contents s))) ≡ all_borders (contents s)
  unfolding contents
  border_rows = ap (tab _) borders_length ∙ rows_all 2 4 s (border_at s) ∙ sym (borders_places (walk_in s 0 (length s)).items)

  pub border_here : (i : ℕ) → i < length (all_borders (contents s)) → RowHere 4 s (steps (next_row 2 4 s) i (first_row 2 4 s))
  border_here i l = rows_here 2 4 s (border_at s) i (omega (arith, borders_length))
