-- Document 02, One: "Reading what was written gives the record back". For Network Data this is `network_back`: what `network_bytes` writes is decoded to the
-- same prefixes, each with its rows and its context.
-- Assumes nothing.
use mathlib.Core.Path.{◌≡◌, refl, sym, ap, ◌∙◌, subst}
use mathlib.Core.Bool.{true}
use mathlib.Core.List.{List, [], ◌∷◌, ◌++◌, map, append-nil, append_assoc}
use Prim.Native.Nat.{ℕ, ◌+◌, ◌/◌, ◌%◌, ◌≤◌, ◌<◌}
use native.Mathlib.Omega.{arith}
use lib.ListN.{length, get_or, take, drop, length-append}
use lib.Dec.{eqb}
use borrow.Author.Tests.{leb-true, eqb-true, le-ltb, lt-leb, eq-eqb}
use Rattle.refusal.specs.Sizes.{most_bytes, most_prefixes, most_has_routes, most_border_routers}
use Rattle.refusal.specs.Answer.{pick, Answer, given, absent, refused, then_do}
use Rattle.refusal.specs.Each.{joined, all}
use Rattle.laws.proofs.Bits.{both, all_every}
use Rattle.laws.proofs.Joined.{joined_append, joined_length}
use Rattle.network_framing.specs.Tlvs.{bytes_for, Piece, Stop, clean, Walk}
use Rattle.network_framing.specs.Frame.{head_at, walk_in}
use Rattle.network_framing.proofs.Agrees.{head_inner, domain_is, bits_are, bytes_are}
use Rattle.network_data.specs.Rules.{counts, join, rule, ended, rules, check_in, check_head, check_prefix, values, check_from, check_value}
use Rattle.network_data.specs.Decode.{route_at, border_at, context_at, row_places, places_in, last_context, Prefix, head_items, inner, prefix_at, prefixes, contents, decode_network_data, all_routes, all_borders}
use Rattle.network_data.specs.declared.Counts.{Counts}
use Rattle.network_data.specs.declared.HasRouteEntry.{HasRouteEntry}
use Rattle.network_data.specs.declared.BorderRouterEntry.{BorderRouterEntry}
use Rattle.network_data.specs.declared.SixLowPanContext.{SixLowPanContext}
use Rattle.network_writing.specs.Encode.{Item, item_bytes, items_bytes, route_bytes, border_bytes, context_bytes, row_items, context_items, inner_items, prefix_value, prefix_item, network_bytes}
use Rattle.network_writing.specs.Fits.{most_item, route_fits, border_fits, context_fits, prefix_fits, network_fits}
use Rattle.laws.proofs.Stands.{Stands, stands_whole, stands_first, stands_front, stands_rest, stands_back, stands_part}
use Rattle.network_writing.proofs.Items.{pieces, whole, Fitted, length_items, walk_items, pieces_append}
use Rattle.network_writing.proofs.Rows.{rows_back, route_size, border_size, route_back, border_back, context_back}

-- ---- TLVs one list after another

places_append : (ty size : ℕ) (xs ys : List Piece) → places_in ty size (xs ++ ys) ≡ places_in ty size xs ++ places_in ty size ys
unfolding places_in
places_append ty size [] ys = refl
places_append ty size (e ∷ es) ys =
    ap (λ (l : List ℕ). pick (eqb e.ty ty) (row_places size e.start (e.len / size)) [] ++ l) (places_append ty size es ys)
    ∙ sym (append_assoc (pick (eqb e.ty ty) (row_places size e.start (e.len / size)) []) (places_in ty size es) (places_in ty size ys))

context_append : (s : List ℕ) (x : Answer SixLowPanContext) (xs ys : List Piece) → last_context s x (xs ++ ys) ≡ last_context s (last_context s x xs) ys
unfolding last_context
context_append s x [] ys = refl
context_append s x (e ∷ es) ys = context_append s (pick (eqb e.ty 3) (pick (eqb e.len 2) (given (context_at s e.start)) x) x) es ys

rules_append : (p : ℕ) (c d : Counts) (st : Stop) (xs ys : List Piece) → rules p c clean xs ≡ given d → rules p c st (xs ++ ys) ≡ rules p d st ys
unfolding rules ended
rules_append p c d st [] ys e = let z : c ≡ d = cc in ap (λ (k : Counts). rules p k st ys) z
rules_append p c d st (x ∷ xs) ys e = by_rule (rule p c x.ty x.len) (λ k h. rules_append p k d st xs ys h) e
  where
    by_rule : (a : Answer Counts) → ((k : Counts) → rules p k clean xs ≡ given d → rules p k st (xs ++ ys) ≡ rules p d st ys)
        → then_do a (λ (k : Counts). rules p k clean xs) ≡ given d → then_do a (λ (k : Counts). rules p k st (xs ++ ys)) ≡ rules p d st ys
    by_rule (given k) f h = f k h
    by_rule absent f h = absurd (let z : ◌≡◌ {A = ℕ} 0 1 = cc in omega arith)
    by_rule (refused n q i) f h = absurd (let z : ◌≡◌ {A = ℕ} 0 1 = cc in omega arith)

-- ---- the TLV of rows of one kind, which is not there where there are none

module _ (s : List ℕ) (at : ℕ) where
  routes_places : (xs : List HasRouteEntry) → places_in 0 3 (pieces at (row_items 0 route_bytes xs)) ≡ row_places 3 (at + 2) (length xs)
  unfolding row_items pieces places_in row_places
  routes_places [] = refl
  routes_places (x ∷ xs) =
      let n = joined_length 3 route_bytes route_size (x ∷ xs) in
      let m : length (joined route_bytes (x ∷ xs)) / 3 ≡ length (x ∷ xs) = omega arith in
      rw (append-nil, m)

  routes_no_borders : (xs : List HasRouteEntry) → places_in 2 4 (pieces at (row_items 0 route_bytes xs)) ≡ []
  unfolding row_items pieces places_in
  routes_no_borders [] = refl
  routes_no_borders (x ∷ xs) = refl

  routes_no_context : (y : Answer SixLowPanContext) (xs : List HasRouteEntry) → last_context s y (pieces at (row_items 0 route_bytes xs)) ≡ y
  unfolding row_items pieces last_context
  routes_no_context y [] = refl
  routes_no_context y (x ∷ xs) = refl

  borders_no_routes : (xs : List BorderRouterEntry) → places_in 0 3 (pieces at (row_items 4 border_bytes xs)) ≡ []
  unfolding row_items pieces places_in
  borders_no_routes [] = refl
  borders_no_routes (x ∷ xs) = refl

  borders_places : (xs : List BorderRouterEntry) → places_in 2 4 (pieces at (row_items 4 border_bytes xs)) ≡ row_places 4 (at + 2) (length xs)
  unfolding row_items pieces places_in row_places
  borders_places [] = refl
  borders_places (x ∷ xs) =
      let n = joined_length 4 border_bytes border_size (x ∷ xs) in
      let m : length (joined border_bytes (x ∷ xs)) / 4 ≡ length (x ∷ xs) = omega arith in
      rw (append-nil, m)

  borders_no_context : (y : Answer SixLowPanContext) (xs : List BorderRouterEntry) → last_context s y (pieces at (row_items 4 border_bytes xs)) ≡ y
  unfolding row_items pieces last_context
  borders_no_context y [] = refl
  borders_no_context y (x ∷ xs) = refl

  context_no_routes : (x : Answer SixLowPanContext) → places_in 0 3 (pieces at (context_items x)) ≡ []
  unfolding context_items pieces places_in
  context_no_routes (given c) = refl
  context_no_routes absent = refl
  context_no_routes (refused n p i) = refl

  context_no_borders : (x : Answer SixLowPanContext) → places_in 2 4 (pieces at (context_items x)) ≡ []
  unfolding context_items pieces places_in
  context_no_borders (given c) = refl
  context_no_borders absent = refl
  context_no_borders (refused n p i) = refl

  context_last : (x : Answer SixLowPanContext) → context_fits x ≡ true → Stands s at (items_bytes (context_items x)) → last_context s absent (pieces at (context_items x)) ≡ x
  unfolding context_items context_fits pieces last_context joined
  context_last (given c) g h =
      ap given (context_back s c (at + 2) g (stands_rest s (at + 1) 2 (context_bytes c) (at + 2) (omega arith) (stands_rest s at 6 (2 ∷ context_bytes c) (at + 1) refl h)))
  context_last absent g h = refl
  context_last (refused n p i) g h = absurd (let z : ◌≡◌ {A = ℕ} 0 1 = cc in omega arith)

  -- the rows themselves
  row_stands : {A : Type 0} (m : ℕ) (f : A → List ℕ) (xs : List A) → Stands s at (items_bytes (row_items m f xs)) → Stands s (at + 2) (joined f xs)
  unfolding row_items joined
  row_stands m f [] h = λ i l. absurd (omega arith)
  row_stands m f (x ∷ xs) h =
      stands_front s (at + 2) (f x ++ joined f xs) []
      (stands_rest s (at + 1) (length (f x ++ joined f xs) % 256) ((f x ++ joined f xs) ++ []) (at + 2) (omega arith) (stands_rest s at m ((length (f x ++ joined f xs) % 256) ∷ ((f x ++ joined f xs) ++ [])) (at + 1) refl h))

  routes_back : (xs : List HasRouteEntry) → all route_fits xs ≡ true → Stands s at (items_bytes (row_items 0 route_bytes xs)) → map (route_at s) (row_places 3 (at + 2) (length xs)) ≡ xs
  routes_back xs g h =
      rows_back 3 route_bytes route_size s (route_at s) (λ (x : HasRouteEntry). route_fits x ≡ true) (route_back s) xs (at + 2) (all_every route_fits xs g) (row_stands 0 route_bytes xs h)

  borders_back : (xs : List BorderRouterEntry) → all border_fits xs ≡ true → Stands s at (items_bytes (row_items 4 border_bytes xs)) → map (border_at s) (row_places 4 (at + 2) (length xs)) ≡ xs
  borders_back xs g h =
      rows_back 4 border_bytes border_size s (border_at s) (λ (x : BorderRouterEntry). border_fits x ≡ true) (border_back s) xs (at + 2) (all_every border_fits xs g) (row_stands 4 border_bytes xs h)

-- ---- the checks of those TLVs

same_rows : (c : Counts) (h b : ℕ) → c.has_routes ≡ h → c.border_routers ≡ b → c ≡ counts c.prefixes h b
same_rows c h b e f = ap (λ (k : ℕ). counts c.prefixes k c.border_routers) e ∙ ap (counts c.prefixes h) f

join_given : (q had n len size most : ℕ) → len % size ≡ 0 → len / size ≡ n → had + n ≤ most → join q had len size most ≡ given (had + n)
unfolding join
join_given q had n len size most z d h = rw (eq-eqb (len % size) 0 z, d, le-ltb most (had + n) h)

module _ (q at : ℕ) (c : Counts) where
  routes_rule : (xs : List HasRouteEntry) → c.has_routes + length xs ≤ most_has_routes
      → rules q c clean (pieces at (row_items 0 route_bytes xs)) ≡ given (counts c.prefixes (c.has_routes + length xs) c.border_routers)
  unfolding rules rule ended row_items pieces
  routes_rule [] h = ap given (same_rows c _ _ (omega arith) refl)
  routes_rule (x ∷ xs) h =
      let n = joined_length 3 route_bytes route_size (x ∷ xs) in
      rw (join_given q c.has_routes (length (x ∷ xs)) (length (joined route_bytes (x ∷ xs))) 3 most_has_routes (omega arith) (omega arith) h)

  borders_rule : (xs : List BorderRouterEntry) → c.border_routers + length xs ≤ most_border_routers
      → rules q c clean (pieces at (row_items 4 border_bytes xs)) ≡ given (counts c.prefixes c.has_routes (c.border_routers + length xs))
  unfolding rules rule ended row_items pieces
  borders_rule [] h = ap given (same_rows c _ _ refl (omega arith))
  borders_rule (x ∷ xs) h =
      let n = joined_length 4 border_bytes border_size (x ∷ xs) in
      rw (join_given q c.border_routers (length (x ∷ xs)) (length (joined border_bytes (x ∷ xs))) 4 most_border_routers (omega arith) (omega arith) h)

  context_rule : (x : Answer SixLowPanContext) → rules q c clean (pieces at (context_items x)) ≡ given c
  unfolding rules rule ended context_items pieces
  context_rule (given x) = refl
  context_rule absent = refl
  context_rule (refused n r i) = refl

-- ---- the inside of a prefix, from the place at on

module _ (s : List ℕ) (at : ℕ) (p : Prefix) where
  abbrev A : List Item
  A = row_items 0 route_bytes p.routes

  abbrev B : List Item
  B = row_items 4 border_bytes p.borders

  abbrev C : List Item
  C = context_items p.context

  abbrev at_b : ℕ
  at_b = at + length (items_bytes A)

  abbrev at_c : ℕ
  at_c = at_b + length (items_bytes B)

  inner_pieces : pieces at (inner_items p) ≡ pieces at A ++ (pieces at_b B ++ pieces at_c C)
  unfolding inner_items
  inner_pieces = pieces_append A (B ++ C) at at_b refl ∙ ap (λ (l : List Piece). pieces at A ++ l) (pieces_append B C at_b at_c refl)

  inner_bytes : items_bytes (inner_items p) ≡ items_bytes A ++ (items_bytes B ++ items_bytes C)
  unfolding inner_items
  inner_bytes = joined_append item_bytes A (B ++ C) ∙ ap (λ (l : List ℕ). items_bytes A ++ l) (joined_append item_bytes B C)

  in_places : (ty size : ℕ) → places_in ty size (pieces at (inner_items p)) ≡ places_in ty size (pieces at A) ++ (places_in ty size (pieces at_b B) ++ places_in ty size (pieces at_c C))
  in_places ty size =
      ap (places_in ty size) inner_pieces ∙ places_append ty size (pieces at A) (pieces at_b B ++ pieces at_c C)
      ∙ ap (λ (l : List ℕ). places_in ty size (pieces at A) ++ l) (places_append ty size (pieces at_b B) (pieces at_c C))

  module _ (h : Stands s at (items_bytes (inner_items p))) where
    parts : Stands s at (items_bytes A ++ (items_bytes B ++ items_bytes C))
    parts = subst (Stands s at) inner_bytes h

    later : Stands s at_b (items_bytes B ++ items_bytes C)
    later = stands_back s at (items_bytes A) (items_bytes B ++ items_bytes C) at_b refl parts

    inner_routes : all route_fits p.routes ≡ true → map (route_at s) (places_in 0 3 (pieces at (inner_items p))) ≡ p.routes
    inner_routes g =
        rw (in_places 0 3, routes_places s at p.routes, borders_no_routes s at_b p.borders, context_no_routes s at_c p.context, append-nil)
        (routes_back s at p.routes g (stands_front s at (items_bytes A) (items_bytes B ++ items_bytes C) parts))

    inner_borders : all border_fits p.borders ≡ true → map (border_at s) (places_in 2 4 (pieces at (inner_items p))) ≡ p.borders
    inner_borders g =
        rw (in_places 2 4, routes_no_borders s at p.routes, borders_places s at_b p.borders, context_no_borders s at_c p.context, append-nil)
        (borders_back s at_b p.borders g (stands_front s at_b (items_bytes B) (items_bytes C) later))

    inner_context : context_fits p.context ≡ true → last_context s absent (pieces at (inner_items p)) ≡ p.context
    inner_context g =
        rw (inner_pieces, context_append s absent (pieces at A) (pieces at_b B ++ pieces at_c C), routes_no_context s at absent p.routes)
        (rw (context_append s absent (pieces at_b B) (pieces at_c C), borders_no_context s at_b absent p.borders)
        (context_last s at_c p.context g (stands_back s at_b (items_bytes B) (items_bytes C) at_c refl later)))

  inner_rules : (q : ℕ) (c : Counts) → c.has_routes + length p.routes ≤ most_has_routes → c.border_routers + length p.borders ≤ most_border_routers
      → rules q c clean (pieces at (inner_items p)) ≡ given (counts c.prefixes (c.has_routes + length p.routes) (c.border_routers + length p.borders))
  inner_rules q c h k =
      let d = counts c.prefixes (c.has_routes + length p.routes) c.border_routers in
      let e = counts c.prefixes (c.has_routes + length p.routes) (c.border_routers + length p.borders) in
      rw inner_pieces
      (rules_append q c d clean (pieces at A) (pieces at_b B ++ pieces at_c C) (routes_rule q at c p.routes h)
      ∙ rules_append q d e clean (pieces at_b B) (pieces at_c C) (borders_rule q at_b d p.borders k)
      ∙ context_rule q at_c e p.context)

-- TLVs that together fit a length byte do so one by one
items_fitted : (is : List Item) → length (items_bytes is) < 256 → Fitted is
items_fitted [] h = tt
items_fitted (i ∷ is) h = let n = length_items i is in (omega arith, items_fitted is (omega arith))

-- ---- a prefix whose value stands from start to end

-- what the tests of a prefix say
pub record Writable (p : Prefix) : Type 0 where
  pub size : length p.bytes ≡ bytes_for p.bits
  pub context : context_fits p.context ≡ true
  pub routes : all route_fits p.routes ≡ true
  pub borders : all border_fits p.borders ≡ true
  pub fits : length (prefix_value p) ≤ most_item

pub writable : (p : Prefix) → prefix_fits p ≡ true → Writable p
unfolding prefix_fits
writable p h =
    let a = both (eqb (length p.bytes) (bytes_for p.bits)) _ h in
    let b = both (context_fits p.context) _ a.1 in
    let c = both (all route_fits p.routes) _ b.1 in
    let d = both (all border_fits p.borders) _ c.1 in
    record { size = eqb-true _ _ a.0; context = b.0; routes = c.0; borders = d.0; fits = leb-true _ _ d.1 }

pub value_size : (p : Prefix) → length (prefix_value p) ≡ 2 + length p.bytes + length (items_bytes (inner_items p))
unfolding prefix_value
value_size p = omega (arith, length-append p.bytes (items_bytes (inner_items p)))

module _ (s : List ℕ) (start end : ℕ) (p : Prefix) (w : Writable p) (h : Stands s start (prefix_value p)) (e : end ≡ start + length (prefix_value p))
    (room : end ≤ length s) where
  -- where its inner TLVs begin
  abbrev place : ℕ
  place = start + (2 + bytes_for p.bits)

  domain_at : get_or s start 0 ≡ p.domain
  unfolding prefix_value
  domain_at = stands_first s start p.domain (p.bits ∷ (p.bytes ++ items_bytes (inner_items p))) h

  bits_at : get_or s (start + 1) 0 ≡ p.bits
  unfolding prefix_value
  bits_at = h 1 (omega arith)

  body_at : Stands s (start + 2) (p.bytes ++ items_bytes (inner_items p))
  unfolding prefix_value
  body_at =
      stands_rest s (start + 1) p.bits (p.bytes ++ items_bytes (inner_items p)) (start + 2) (omega arith)
      (stands_rest s start p.domain (p.bits ∷ (p.bytes ++ items_bytes (inner_items p))) (start + 1) refl h)

  inner_at : Stands s place (items_bytes (inner_items p))
  inner_at = let z = w.size in stands_back s (start + 2) p.bytes (items_bytes (inner_items p)) place (omega arith) body_at

  inner_fitted : Fitted (inner_items p)
  inner_fitted = let z = w.fits in items_fitted (inner_items p) (omega (arith, value_size p))

  inner_walk : walk_in s place end ≡ whole (pieces place (inner_items p))
  inner_walk = let z = w.size in walk_items (inner_items p) s place end inner_fitted inner_at (omega (arith, value_size p)) room

  own : 2 + bytes_for p.bits ≡ 2 + bytes_for (get_or s (start + 1) 0)
  own = ap (λ (n : ℕ). 2 + bytes_for n) (sym bits_at)

  head_found : head_at s start end ≡ given place
  head_found =
      let z = w.size in
      let n = value_size p in
      sym (head_inner s start end (omega arith) room (omega arith) (2 + bytes_for p.bits) own place refl (omega arith))

  all_there : start + (2 + bytes_for (get_or s (start + 1) 0)) ≤ end
  all_there =
      let z = w.size in
      let n = value_size p in
      omega (arith, own)

  inner_is : inner s start end ≡ pieces place (inner_items p)
  unfolding inner head_items
  inner_is = rw head_found (ap (λ (x : Walk). x.items) inner_walk)

  pub prefix_back : prefix_at s start end ≡ p
  unfolding prefix_at
  prefix_back =
      let z = w.size in
      let n = value_size p in
      let bytes : take (bytes_for p.bits) (drop (start + 2) s) ≡ p.bytes =
      ap (λ (m : ℕ). take m (drop (start + 2) s)) (sym z)
      ∙ stands_part s (start + 2) p.bytes (stands_front s (start + 2) p.bytes (items_bytes (inner_items p)) body_at) (omega arith) in
      let own_bytes = bytes_are s start end all_there room ∙ ap (λ (m : ℕ). take (bytes_for m) (drop (start + 2) s)) bits_at ∙ bytes in
      rw (domain_is s start end all_there room ∙ domain_at, bits_are s start end all_there room ∙ bits_at, own_bytes, inner_is, inner_context s place p inner_at w.context, inner_routes s place p inner_at w.routes, inner_borders s place p inner_at w.borders)

  pub prefix_check : (q : ℕ) (c : Counts) → c.prefixes < most_prefixes → c.has_routes + length p.routes ≤ most_has_routes
      → c.border_routers + length p.borders ≤ most_border_routers
      → check_prefix q s c start end ≡ given (counts (c.prefixes + 1) (c.has_routes + length p.routes) (c.border_routers + length p.borders))
  unfolding check_prefix check_head check_in
  prefix_check q c l m n =
      rw (lt-leb most_prefixes c.prefixes l, head_found) (rw inner_walk (inner_rules s place p q (counts (c.prefixes + 1) c.has_routes c.border_routers) m n))

-- ---- all prefixes

module _ (s : List ℕ) where
  prefixes_back : (ps : List Prefix) (at : ℕ) → network_fits ps ≡ true → Stands s at (items_bytes (map prefix_item ps)) → at + length (items_bytes (map prefix_item ps)) ≤ length s
      → prefixes s (pieces at (map prefix_item ps)) ≡ ps
  unfolding prefixes pieces network_fits all joined
  prefixes_back [] at g h k = refl
  prefixes_back (p ∷ ps) at g h k =
      let f = both (prefix_fits p) (all prefix_fits ps) g in
      let size = length_items (prefix_item p) (map prefix_item ps) in
      let body = stands_rest s (at + 1) (length (prefix_value p) % 256) (prefix_value p ++ items_bytes (map prefix_item ps)) (at + 2) (omega arith)
      (stands_rest s at 2 ((length (prefix_value p) % 256) ∷ (prefix_value p ++ items_bytes (map prefix_item ps))) (at + 1) refl h) in
      let one = prefix_back s (at + 2) (at + 2 + length (prefix_value p)) p (writable p f.0) (stands_front s (at + 2) (prefix_value p) (items_bytes (map prefix_item ps)) body) refl (omega arith) in
      let more = prefixes_back ps (at + 2 + length (prefix_value p)) f.1 (stands_back s (at + 2) (prefix_value p) (items_bytes (map prefix_item ps)) (at + 2 + length (prefix_value p)) refl body) (omega arith) in
      ap (λ (x : Prefix). x ∷ prefixes s (pieces (at + 2 + length (prefix_value p)) (map prefix_item ps))) one ∙ ap (λ (l : List Prefix). p ∷ l) more

  values_back : (q : ℕ) (ps : List Prefix) (at : ℕ) (c : Counts) → network_fits ps ≡ true → Stands s at (items_bytes (map prefix_item ps))
      → at + length (items_bytes (map prefix_item ps)) ≤ length s
      → c.prefixes + length ps ≤ most_prefixes → c.has_routes + length (all_routes ps) ≤ most_has_routes → c.border_routers + length (all_borders ps) ≤ most_border_routers
      → (d : Counts) × (values q s c clean (pieces at (map prefix_item ps)) ≡ given d)
  unfolding values ended pieces network_fits all joined all_routes all_borders
  values_back q [] at c g h room l m n = (c, refl)
  values_back q (p ∷ ps) at c g h room l m n =
      let size = length_items (prefix_item p) (map prefix_item ps) in
      let f = both (prefix_fits p) (all prefix_fits ps) g in
      let body = stands_rest s (at + 1) (length (prefix_value p) % 256) (prefix_value p ++ items_bytes (map prefix_item ps)) (at + 2) (omega arith)
      (stands_rest s at 2 ((length (prefix_value p) % 256) ∷ (prefix_value p ++ items_bytes (map prefix_item ps))) (at + 1) refl h) in
      let r = length-append p.routes (all_routes ps) in
      let b = length-append p.borders (all_borders ps) in
      let d = counts (c.prefixes + 1) (c.has_routes + length p.routes) (c.border_routers + length p.borders) in
      let one = prefix_check s (at + 2) (at + 2 + length (prefix_value p)) p (writable p f.0) (stands_front s (at + 2) (prefix_value p) (items_bytes (map prefix_item ps)) body) refl (omega arith) q c (omega arith) (omega arith) (omega arith) in
      let more = values_back q ps (at + 2 + length (prefix_value p)) d f.1 (stands_back s (at + 2) (prefix_value p) (items_bytes (map prefix_item ps)) (at + 2 + length (prefix_value p)) refl body) (omega arith) (omega arith) (omega arith) (omega arith) in
      (more.0, ap (λ (x : Answer Counts). then_do x (λ (k : Counts). values q s k clean (pieces (at + 2 + length (prefix_value p)) (map prefix_item ps)))) one ∙ more.1)

prefixes_fitted : (ps : List Prefix) → network_fits ps ≡ true → Fitted (map prefix_item ps)
unfolding network_fits all
prefixes_fitted [] g = tt
prefixes_fitted (p ∷ ps) g =
    let f = both (prefix_fits p) (all prefix_fits ps) g in
    let w = (writable p f.0).fits in
    (omega arith, prefixes_fitted ps f.1)

-- within the sizes
pub record Small (ps : List Prefix) : Type 0 where
  pub prefixes : length ps ≤ most_prefixes
  pub routes : length (all_routes ps) ≤ most_has_routes
  pub borders : length (all_borders ps) ≤ most_border_routers

module _ (ps : List Prefix) (fit : network_fits ps ≡ true) where
  network_fitted : Fitted (map prefix_item ps)
  network_fitted = prefixes_fitted ps fit

  network_walk : walk_in (network_bytes ps) 0 (length (network_bytes ps)) ≡ whole (pieces 0 (map prefix_item ps))
  unfolding network_bytes
  network_walk = walk_items (map prefix_item ps) (network_bytes ps) 0 (length (network_bytes ps)) network_fitted (stands_whole (network_bytes ps)) (omega arith) (omega arith)

  pub contents_back : contents (network_bytes ps) ≡ ps
  unfolding contents network_bytes
  contents_back =
      ap (λ (x : Walk). prefixes (network_bytes ps) x.items) network_walk
      ∙ prefixes_back (network_bytes ps) ps 0 fit (stands_whole (network_bytes ps)) (omega arith)

  check_back : (q : ℕ) → Small ps → (d : Counts) × (check_value q (network_bytes ps) ≡ given d)
  unfolding check_value check_from network_bytes
  check_back q z =
      let back = values_back (network_bytes ps) q ps 0 (counts 0 0 0) fit (stands_whole (network_bytes ps)) (omega arith) (omega (arith, z.prefixes)) (omega (arith, z.routes)) (omega (arith, z.borders)) in
      (back.0, ap (check_from q (network_bytes ps) (counts 0 0 0)) network_walk ∙ back.1)

  -- "Reading what was written gives the record back"
  pub network_back : (q : ℕ) → Small ps → length (network_bytes ps) ≤ most_bytes → decode_network_data q (network_bytes ps) ≡ given ps
  unfolding decode_network_data
  network_back q z h =
      let back = check_back q z in
      rw (le-ltb most_bytes (length (network_bytes ps)) h, back.1, contents_back)
