-- The loop that stores prefixes one after the other: what holds after i of them.
-- Assumes nothing.
use mathlib.Core.Path.{◌≡◌, refl, sym, ap, ◌∙◌, subst}
use mathlib.Core.List.{List, [], ◌∷◌, ◌++◌}
use Prim.Native.Nat.{ℕ, zero, suc, ◌+◌, ◌-◌, ◌≤◌, ◌<◌}
use native.Mathlib.Omega.{arith}
use native.Mathlib.Numerals.{add-one}
use lib.ListN.{length, get_or, take, drop, length-append}
use lib.Seq.{drop-cons, drop-drop, take-suc}
use Rattle.refusal.specs.Sizes.{most_has_routes, most_border_routers}
use Rattle.refusal.specs.Output.{put}
use Rattle.refusal.specs.Each.{joined}
use Rattle.laws.proofs.Puts.{put_none, put_length, put_then}
use Rattle.network_data.specs.declared.HasRouteEntry.{HasRouteEntry}
use Rattle.network_data.specs.declared.BorderRouterEntry.{BorderRouterEntry}
use Rattle.network_data.specs.declared.PrefixEntry.{PrefixEntry}
use Rattle.network_writing.specs.Encode.{network_bytes}
use Rattle.network_writing.specs.Tables.{prefixes_of, routes_asked, borders_asked}
use Rattle.diag_writing.specs.Pieces.{prefix_bytes}
use Rattle.writing_walks.specs.declared.Cursor.{Cursor}
use Rattle.diag_writing.proofs.RowLoop.{none_left}

-- ---- the rows that the first prefixes ask for

routes_of : (xs : List PrefixEntry) (x : PrefixEntry) → routes_asked (xs ++ (x ∷ [])) ≡ routes_asked xs + x.has_routes
unfolding routes_asked
routes_of [] x = omega arith
routes_of (y ∷ xs) x = omega (arith, routes_of xs x)

borders_of : (xs : List PrefixEntry) (x : PrefixEntry) → borders_asked (xs ++ (x ∷ [])) ≡ borders_asked xs + x.border_routers
unfolding borders_asked
borders_of [] x = omega arith
borders_of (y ∷ xs) x = omega (arith, borders_of xs x)

routes_most : (T : List PrefixEntry) (m : ℕ) → routes_asked (take m T) ≤ routes_asked T
unfolding routes_asked
routes_most T zero = omega arith
routes_most [] (suc m) = omega arith
routes_most (x ∷ T) (suc m) = omega (arith, routes_most T m)

borders_most : (T : List PrefixEntry) (m : ℕ) → borders_asked (take m T) ≤ borders_asked T
unfolding borders_asked
borders_most T zero = omega arith
borders_most [] (suc m) = omega arith
borders_most (x ∷ T) (suc m) = omega (arith, borders_most T m)

none_asked : (routes_asked [] ≡ 0) × (borders_asked [] ≡ 0)
unfolding routes_asked borders_asked
none_asked = (refl, refl)

module _ (T : List PrefixEntry) (R : List HasRouteEntry) (B : List BorderRouterEntry) (c : Cursor) (o : List ℕ) where
  -- the prefixes that are left, stored from here on, make of the output what all of them make of it
  abbrev pub PrefixInv : (i : ℕ) (d : Cursor) (p : List ℕ) → Type 0
  PrefixInv i d p =
      (d.route ≡ c.route + routes_asked (take i T)) × (d.border ≡ c.border + borders_asked (take i T))
      × (d.at + length (network_bytes (prefixes_of (drop i T) (drop d.route R) (drop d.border B)))
      ≡ c.at + length (network_bytes (prefixes_of T (drop c.route R) (drop c.border B))))
      × (put p d.at (network_bytes (prefixes_of (drop i T) (drop d.route R) (drop d.border B)))
      ≡ put o c.at (network_bytes (prefixes_of T (drop c.route R) (drop c.border B))))
      × (length p ≡ length o)

  abbrev bytes_of : List PrefixEntry → (r s : ℕ) → List ℕ
  bytes_of es r s = network_bytes (prefixes_of es (drop r R) (drop s B))

  pub prefixes_start : PrefixInv 0 c o
  prefixes_start = (omega (arith, none_asked.0), omega (arith, none_asked.1), refl, refl, refl)

  nothing : (r s : ℕ) → bytes_of [] r s ≡ []
  unfolding network_bytes prefixes_of joined
  nothing r s = refl

  pub prefixes_done : (i : ℕ) → length T ≤ i → (d : Cursor) (p : List ℕ) → PrefixInv i d p
      → (d.at ≡ c.at + length (bytes_of T c.route c.border)) × (p ≡ put o c.at (bytes_of T c.route c.border))
  prefixes_done i k d p h =
      let none : bytes_of (drop i T) d.route d.border ≡ [] = ap (λ (l : List PrefixEntry). bytes_of l d.route d.border) (none_left T i k) ∙ nothing d.route d.border in
      (omega (arith, h.2, ap length none), sym (put_none p d.at) ∙ ap (put p d.at) (sym none) ∙ h.3)

  module _ (none : PrefixEntry) (i : ℕ) (more : i < length T) (d : Cursor) (p : List ℕ) (h : PrefixInv i d p) where
    abbrev e : PrefixEntry
    e = get_or T i none

    abbrev one : List ℕ
    one = prefix_bytes e R d.route B d.border

    abbrev later : List ℕ
    later = bytes_of (drop (i + 1) T) (d.route + e.has_routes) (d.border + e.border_routers)

    one_more : drop i T ≡ e ∷ drop (i + 1) T
    one_more = rw (add-one i, drop-cons T i none more)

    left_more : bytes_of (drop i T) d.route d.border ≡ one ++ later
    unfolding network_bytes prefixes_of joined
    left_more =
        ap (λ (l : List PrefixEntry). network_bytes (prefixes_of l (drop d.route R) (drop d.border B))) one_more
        ∙ ap (λ (l : List HasRouteEntry). one ++ network_bytes (prefixes_of (drop (i + 1) T) l (drop e.border_routers (drop d.border B)))) (drop-drop e.has_routes d.route R)
        ∙ ap (λ (l : List BorderRouterEntry). one ++ network_bytes (prefixes_of (drop (i + 1) T) (drop (d.route + e.has_routes) R) l)) (drop-drop e.border_routers d.border B)

    left_length : d.at + (length one + length later) ≡ c.at + length (bytes_of T c.route c.border)
    left_length = ap (◌+◌ d.at) (sym (length-append one later) ∙ ap length (sym left_more)) ∙ h.2

    routes_next : d.route + e.has_routes ≡ c.route + routes_asked (take (i + 1) T)
    routes_next =
        let t : routes_asked (take (i + 1) T) ≡ routes_asked (take i T) + e.has_routes = rw (add-one i, take-suc T i none more) (routes_of (take i T) e) in
        omega (arith, h.0)

    borders_next : d.border + e.border_routers ≡ c.border + borders_asked (take (i + 1) T)
    borders_next =
        let t : borders_asked (take (i + 1) T) ≡ borders_asked (take i T) + e.border_routers = rw (add-one i, take-suc T i none more) (borders_of (take i T) e) in
        omega (arith, h.1)

    pub prefixes_need : c.route + routes_asked T ≤ length R → c.border + borders_asked T ≤ length B → c.route + routes_asked T ≤ most_has_routes
        → c.border + borders_asked T ≤ most_border_routers → c.at + length (bytes_of T c.route c.border) ≤ length o
        → (d.route + e.has_routes ≤ length R) × (d.border + e.border_routers ≤ length B) × (d.route + e.has_routes ≤ most_has_routes)
        × (d.border + e.border_routers ≤ most_border_routers) × (d.at + length one ≤ length p)
    prefixes_need r s q k room =
        let x = routes_most T (i + 1) in
        let y = borders_most T (i + 1) in
        (omega (arith, routes_next), omega (arith, borders_next), omega (arith, routes_next), omega (arith, borders_next), omega (arith, left_length, h.4))

    pub prefixes_turn : (d' : Cursor) (p' : List ℕ) → d' ≡ record { at = d.at + length one; route = d.route + e.has_routes; border = d.border + e.border_routers } → p' ≡ put p d.at one → PrefixInv (i + 1) d' p'
    prefixes_turn d' p' k l =
        subst (λ (x : Cursor). PrefixInv (i + 1) x p') (sym k)
        (routes_next, borders_next, omega (arith, left_length), put_then p p' d.at (d.at + length one) one later l refl ∙ ap (put p d.at) (sym left_more) ∙ h.3, ap length l ∙ put_length p d.at one ∙ h.4)
