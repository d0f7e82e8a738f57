-- The records by their number: where a value is given, the cursor's i-th record is the definition's, and past the last there is none.
-- Assumes nothing.
use mathlib.Core.Path.{◌≡◌, refl, sym, ap, ◌∙◌}
use mathlib.Core.List.{List, [], ◌∷◌, map}
use Prim.Native.Nat.{ℕ, zero, suc, ◌<◌, ◌≤◌}
use native.Mathlib.Omega.{arith}
use lib.ListN.{length, length-map}
use lib.Dec.{ltb}
use borrow.Author.Tests.{ltb-true, ltb-false}
use Rattle.tables.specs.Tab.{tab, steps}
use Rattle.tables.proofs.Follows.{tab_cons}
use Rattle.refusal.specs.Sizes.{most_bytes}
use Rattle.refusal.specs.Answer.{Answer, given, absent, refused, then_do, on_given}
use Rattle.laws.proofs.Tests.{by_test}
use Rattle.network_data.specs.Rules.{check_value}
use Rattle.network_framing.specs.Frame.{walk_in}
use Rattle.network_data.specs.Decode.{Prefix, contents, decode_network_data, all_routes, all_borders, counts_of, entry_of}
use Rattle.refusal.specs.Numbered.{nth}
use Rattle.network_tables.specs.Cursor.{first_row, next_row, RowsTo, route_of, border_of, SpansTo, entry_at, span_end}
use Rattle.network_data.specs.declared.Counts.{Counts}
use Rattle.network_data.proofs.Counted.{counted, too_large, counted_given}
use Rattle.network_tables.proofs.Chains.{Heads, prefix_rows, prefix_here, checked_heads}
use Rattle.network_tables.proofs.Rowed.{route_rows, route_here, border_rows, border_here}

pub nth_past : {A : Type 0} (xs : List A) (i : ℕ) → length xs ≤ i → nth xs i ≡ absent
unfolding nth
nth_past [] i h = refl
nth_past (x ∷ xs) zero h = absurd (omega arith)
nth_past (x ∷ xs) (suc i) h = nth_past xs i (omega arith)

pub nth_tab : {A : Type 0} (n : ℕ) (f : ℕ → A) (i : ℕ) → i < n → nth (tab f n) i ≡ given (f i)
unfolding nth
nth_tab zero f i h = absurd (omega arith)
nth_tab (suc n) f zero h = ap (λ l. nth l 0) (tab_cons f n)
nth_tab (suc n) f (suc i) h = ap (λ l. nth l (suc i)) (tab_cons f n) ∙ nth_tab n (λ k. f (suc k)) i (omega arith)

-- a list that is given, and one of its elements
module _ {A : Type 0} (s : List ℕ) (all : List Prefix → List A) where
  abbrev numbered : ℕ → Answer A
  numbered i = then_do (decode_network_data 0 s) (λ (ps : List Prefix). nth (all ps) i)

  module _ (c : Counts) (told : given c ≡ on_given counts_of (decode_network_data 0 s)) where
    at_contents : (i : ℕ) → nth (all (contents s)) i ≡ numbered i
    at_contents i = sym (ap (λ (d : Answer (List Prefix)). then_do d (λ (ps : List Prefix). nth (all ps) i)) (counted_given 0 s c told))

    at_past : (i : ℕ) → length (all (contents s)) ≤ i → absent ≡ numbered i
    at_past i h = sym (nth_past (all (contents s)) i h) ∙ at_contents i

    at_given : (f : ℕ → A) → tab f (length (all (contents s))) ≡ all (contents s) → (i : ℕ) → i < length (all (contents s)) → given (f i) ≡ numbered i
    at_given f is i h = sym (nth_tab (length (all (contents s))) f i h) ∙ ap (λ l. nth l i) is ∙ at_contents i

module _ (s : List ℕ) where
  module _ (c : Counts) (told : given c ≡ on_given counts_of (decode_network_data 0 s)) where
    pub is_counts : c ≡ counts_of (contents s)
    is_counts =
        let e : given c ≡ given (counts_of (contents s)) = told ∙ ap (on_given counts_of) (counted_given 0 s c told) in
        cc

    pub is_checked : given c ≡ check_value 0 s
    is_checked =
        by_test (ltb most_bytes (length s))
        (λ t. let e : ◌≡◌ {A = Answer Counts} (given c) (refused 1 0 0) = told ∙ sym (too_large 0 s (ltb-true _ _ t)) in
        absurd (let z : ◌≡◌ {A = ℕ} 0 1 = cc in omega arith))
        (λ t. told ∙ sym (counted 0 s (ltb-false _ _ t)))

    routes_are : c.has_routes ≡ length (all_routes (contents s))
    unfolding counts_of
    routes_are = ap (λ (x : Counts). x.has_routes) is_counts

    borders_are : c.border_routers ≡ length (all_borders (contents s))
    unfolding counts_of
    borders_are = ap (λ (x : Counts). x.border_routers) is_counts

    prefixes_are : c.prefixes ≡ length (contents s)
    unfolding counts_of
    prefixes_are = ap (λ (x : Counts). x.prefixes) is_counts

    pub heads_are : Heads s (walk_in s 0 (length s)).items
    heads_are = checked_heads 0 s c is_checked

    module _ (i : ℕ) where
      pub route_past : c.has_routes ≤ i → absent ≡ then_do (decode_network_data 0 s) (λ (ps : List Prefix). nth (all_routes ps) i)
      route_past h = at_past s all_routes c told i (omega (arith, routes_are))

      pub border_past : c.border_routers ≤ i → absent ≡ then_do (decode_network_data 0 s) (λ (ps : List Prefix). nth (all_borders ps) i)
      border_past h = at_past s all_borders c told i (omega (arith, borders_are))

      pub prefix_past : c.prefixes ≤ i → absent ≡ then_do (decode_network_data 0 s) (λ (ps : List Prefix). nth (map entry_of ps) i)
      prefix_past h = at_past s (map entry_of) c told i (simp length-map (omega (arith, prefixes_are)))

      module _ (h : i < c.has_routes) where
        pub routes_to : RowsTo 0 3 s i
        routes_to k l = route_here s k (omega (arith, routes_are))

        pub route_given : given (route_of s (steps (next_row 0 3 s) i (first_row 0 3 s))) ≡ then_do (decode_network_data 0 s) (λ (ps : List Prefix). nth (all_routes ps) i)
        route_given = at_given s all_routes c told _ (route_rows s) i (omega (arith, routes_are))

      module _ (h : i < c.border_routers) where
        pub borders_to : RowsTo 2 4 s i
        borders_to k l = border_here s k (omega (arith, borders_are))

        pub border_given : given (border_of s (steps (next_row 2 4 s) i (first_row 2 4 s))) ≡ then_do (decode_network_data 0 s) (λ (ps : List Prefix). nth (all_borders ps) i)
        border_given = at_given s all_borders c told _ (border_rows s) i (omega (arith, borders_are))

      module _ (h : i < c.prefixes) where
        pub spans_to : SpansTo s i
        spans_to k l = prefix_here s heads_are k (omega (arith, prefixes_are))

        pub prefix_given : given (entry_at s (steps (span_end s) i 0)) ≡ then_do (decode_network_data 0 s) (λ (ps : List Prefix). nth (map entry_of ps) i)
        prefix_given = at_given s (map entry_of) c told (λ k. entry_at s (steps (span_end s) k 0)) (simp length-map (prefix_rows s heads_are)) i (simp length-map (omega (arith, prefixes_are)))
