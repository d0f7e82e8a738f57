-- What the counts say that go into the tables: each table has room for its records, they are there to be read, and storing them gives the outcome.
-- Assumes nothing.
use mathlib.Core.Path.{◌≡◌, refl, sym, ap, ◌∙◌}
use mathlib.Core.List.{List, ◌++◌, map}
use Prim.Native.Nat.{ℕ, ◌<◌, ◌≤◌}
use native.Mathlib.Omega.{arith}
use lib.ListN.{length, take, drop, length-map}
use lib.Seq.{length-take-le}
use lib.Dec.{leb, ltb}
use Rattle.refusal.specs.Sizes.{most_bytes}
use borrow.Author.Tests.{leb-true}
use Rattle.tables.specs.Tab.{tab, steps}
use Rattle.refusal.specs.Answer.{Answer, given, absent, refused, on_given}
use Rattle.network_framing.specs.Frame.{walk_in}
use Rattle.network_data.specs.Rules.{check_value}
use Rattle.network_data.specs.Decode.{Prefix, contents, entry_of, all_routes, all_borders, counts_of, decode_network_data}
use Rattle.network_tables.specs.Cursor.{first_row, next_row, RowHere, route_of, border_of, SpanHere, entry_at, span_end}
use Rattle.network_plans.specs.Planned.{room_for, answered}
use Rattle.network_plans.specs.Tables.{outcome, over, written, decoded}
use Rattle.network_data.specs.declared.Counts.{Counts}
use Rattle.network_data.specs.declared.PrefixEntry.{PrefixEntry}
use Rattle.network_data.specs.declared.HasRouteEntry.{HasRouteEntry}
use Rattle.network_data.specs.declared.BorderRouterEntry.{BorderRouterEntry}
use Rattle.laws.proofs.Tests.{by_test, pick_all}
use Rattle.network_tables.proofs.Chains.{Heads, prefix_rows, prefix_here, checked_heads}
use Rattle.network_tables.proofs.Rowed.{route_rows, route_here, border_rows, border_here}

-- what is given is no refusal
not_refused : {A : Type 0} (c : A) (n p i : ℕ) → given c ≡ refused n p i → ⊥
not_refused c n p i e = let z : ◌≡◌ {A = ℕ} 0 1 = cc in omega arith

same_outcome : {a : Answer Counts} {x x' : List PrefixEntry} {y y' : List HasRouteEntry} {z z' : List BorderRouterEntry} → x ≡ x' → y ≡ y' → z ≡ z' → outcome a x y z ≡ outcome a x' y' z'
same_outcome {a} {x} {x'} {y} {y'} {z} {z'} e f g = ap (λ t. outcome a t y z) e ∙ ap (λ t. outcome a x' t z) f ∙ ap (outcome a x' y') g

-- a table with new records in it
into : {E : Type 0} {new : List E} {n : ℕ} (f : ℕ → E) (m : ℕ) (t xs : List E) → new ≡ tab f m → m ≡ n → n ≡ length xs → tab f (length xs) ≡ xs → new ++ drop n t ≡ over xs t
into {E} {new} {n} f m t xs is k l e = ap (λ (x : List E). x ++ drop n t) (is ∙ ap (tab f) (k ∙ l) ∙ e) ∙ ap (λ (j : ℕ). xs ++ drop j t) l

module _ (p h b : ℕ) where
  -- there is room for so many records
  pub record Room (k : Counts) : Type 0 where
    pub prefixes : k.prefixes ≤ p
    pub routes : k.has_routes ≤ h
    pub borders : k.border_routers ≤ b

  room_gives : (k c : Counts) → given c ≡ room_for k p h b → (c ≡ k) × Room k
  unfolding room_for
  room_gives k c e =
      by_test (leb k.prefixes p)
      (λ x. by_test (leb k.has_routes h)
      (λ y. by_test (leb k.border_routers b)
      (λ z. let same : given c ≡ given k = simp (x, y, z) at e in
      (cc, record { prefixes = leb-true _ _ x; routes = leb-true _ _ y; borders = leb-true _ _ z }))
      (λ z. absurd (not_refused c 11 0 0 (simp (x, y, z) at e))))
      (λ y. absurd (not_refused c 11 0 0 (simp (x, y) at e))))
      (λ x. absurd (not_refused c 11 0 0 (simp x at e)))

module _ (s : List ℕ) where
  abbrev ps : List Prefix
  ps = contents s

  -- what is given are these prefixes, and they are whole
  abbrev Ours : Answer (List Prefix) → Type 0
  Ours (given qs) = (qs ≡ ps) × Heads s (walk_in s 0 (length s)).items
  Ours absent = Unit {0}
  Ours (refused n p i) = Unit {0}

  ours_by : (a : Answer Counts) → a ≡ check_value 0 s → Ours (on_given (λ (c : Counts). ps) a)
  ours_by (given d) e = (refl, checked_heads 0 s d e)
  ours_by absent e = tt
  ours_by (refused n p i) e = tt

  ours : Ours (decode_network_data 0 s)
  unfolding decode_network_data
  ours = pick_all Ours (ltb most_bytes (length s)) (refused 1 0 0) _ (λ _. tt) (λ _. ours_by (check_value 0 s) refl)

  module _ (P : List PrefixEntry) (H : List HasRouteEntry) (B : List BorderRouterEntry) where
    -- all records stay where the call is refused
    stays : (d : Answer (List Prefix)) (n q i : ℕ) → refused n q i ≡ answered d (length P) (length H) (length B) → outcome (refused n q i) P H B ≡ decoded d P H B
    unfolding answered decoded written
    stays (given qs) n q i e = ap (λ (a : Answer Counts). written qs a P H B) e
    stays absent n q i e = absurd (let z : ◌≡◌ {A = ℕ} 0 1 = cc in omega arith)
    stays (refused m r j) n q i e = ap (λ (a : Answer Counts). outcome a P H B) e

    pub refuses : (n q i : ℕ) → refused n q i ≡ answered (decode_network_data 0 s) (length P) (length H) (length B) → outcome (refused n q i) P H B ≡ decoded (decode_network_data 0 s) P H B
    refuses n q i e = stays (decode_network_data 0 s) n q i e

    module _ (c : Counts) where
      -- what is given is of these prefixes
      pub record Fits (d : Answer (List Prefix)) : Type 0 where
        pub said : d ≡ given ps
        pub heads : Heads s (walk_in s 0 (length s)).items
        pub count : c ≡ counts_of ps
        pub room : Room (length P) (length H) (length B) c

      fits_by : (d : Answer (List Prefix)) → Ours d → given c ≡ answered d (length P) (length H) (length B) → Fits d
      unfolding answered
      fits_by (given qs) o e =
          let g = room_gives (length P) (length H) (length B) (counts_of qs) c e in
          record {
            said = ap given o.0;
            heads = o.1;
            count = g.0 ∙ ap counts_of o.0;
            room = rw g.0 g.1;
          }
      fits_by absent o e = absurd (let z : ◌≡◌ {A = ℕ} 0 1 = cc in omega arith)
      fits_by (refused n q i) o e = absurd (not_refused c n q i e)

      module _ (told : given c ≡ answered (decode_network_data 0 s) (length P) (length H) (length B)) where
        pub fits : Fits (decode_network_data 0 s)
        fits = fits_by (decode_network_data 0 s) ours told

        prefixes_are : c.prefixes ≡ length ps
        unfolding counts_of
        prefixes_are = ap (λ (x : Counts). x.prefixes) fits.count

        routes_are : c.has_routes ≡ length (all_routes ps)
        unfolding counts_of
        routes_are = ap (λ (x : Counts). x.has_routes) fits.count

        borders_are : c.border_routers ≡ length (all_borders ps)
        unfolding counts_of
        borders_are = ap (λ (x : Counts). x.border_routers) fits.count

        pub ask_prefixes : (n : ℕ) → n ≡ c.prefixes → (i : ℕ) → i < n → SpanHere s (steps (span_end s) i 0)
        ask_prefixes n e i l = prefix_here s fits.heads i (omega (arith, prefixes_are))

        pub ask_routes : (n : ℕ) → n ≡ c.has_routes → (i : ℕ) → i < n → RowHere 3 s (steps (next_row 0 3 s) i (first_row 0 3 s))
        ask_routes n e i l = route_here s i (omega (arith, routes_are))

        pub ask_borders : (n : ℕ) → n ≡ c.border_routers → (i : ℕ) → i < n → RowHere 4 s (steps (next_row 2 4 s) i (first_row 2 4 s))
        ask_borders n e i l = border_here s i (omega (arith, borders_are))

        module _
            (P' : List PrefixEntry) (P-is : P' ≡ tab (λ i. entry_at s (steps (span_end s) i 0)) (length (take c.prefixes P)))
            (H' : List HasRouteEntry) (H-is : H' ≡ tab (λ i. route_of s (steps (next_row 0 3 s) i (first_row 0 3 s))) (length (take c.has_routes H)))
            (B' : List BorderRouterEntry) (B-is : B' ≡ tab (λ i. border_of s (steps (next_row 2 4 s) i (first_row 2 4 s))) (length (take c.border_routers B))) where
          stored : outcome (given c) (P' ++ drop c.prefixes P) (H' ++ drop c.has_routes H) (B' ++ drop c.border_routers B) ≡ written ps (given c) P H B
          unfolding written
          stored =
              same_outcome
              (into _ _ P (map entry_of ps) P-is (length-take-le _ _ fits.room.prefixes) (simp length-map prefixes_are) (simp length-map (prefix_rows s fits.heads)))
              (into _ _ H (all_routes ps) H-is (length-take-le _ _ fits.room.routes) routes_are (route_rows s))
              (into _ _ B (all_borders ps) B-is (length-take-le _ _ fits.room.borders) borders_are (border_rows s))

          said_so : written ps (given c) P H B ≡ decoded (given ps) P H B
          unfolding decoded answered
          said_so =
              let e : given c ≡ room_for (counts_of ps) (length P) (length H) (length B) = told ∙ ap (λ (d : Answer (List Prefix)). answered d (length P) (length H) (length B)) fits.said in
              ap (λ (a : Answer Counts). written ps a P H B) e

          pub finish : outcome (given c) (P' ++ drop c.prefixes P) (H' ++ drop c.has_routes H) (B' ++ drop c.border_routers B) ≡ decoded (decode_network_data 0 s) P H B
          finish = stored ∙ said_so ∙ ap (λ (d : Answer (List Prefix)). decoded d P H B) (sym fits.said)
