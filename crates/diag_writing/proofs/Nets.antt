-- Network Data of three lent tables: whether it fits, and how many bytes it takes, by the tables alone.
-- Assumes nothing.
use mathlib.Core.Path.{◌≡◌, refl, sym, ap, ◌∙◌}
use mathlib.Core.Bool.{Bool, true, false}
use mathlib.Core.List.{List, [], ◌∷◌, ◌++◌, map}
use Prim.Native.Nat.{ℕ, suc, ◌+◌, ◌*◌, ◌≤◌}
use native.Mathlib.Omega.{arith}
use lib.ListN.{length, take, drop, length-append, length-drop, take-append-drop}
use lib.Seq.{length-take-le}
use lib.Dec.{leb}
use borrow.Author.Tests.{le-leb, eqb-true, ne_eqb}
use Rattle.std.specs.Prelude.{Option, Some, None}
use Rattle.refusal.specs.Sizes.{most_has_routes, most_border_routers}
use Rattle.refusal.specs.Answer.{pick}
use Rattle.refusal.specs.Each.{all, joined}
use Rattle.laws.proofs.Tests.{by_test}
use Rattle.laws.proofs.Joined.{joined_append, joined_length}
use Rattle.network_framing.specs.Tlvs.{bytes_for}
use Rattle.network_data.specs.declared.PrefixEntry.{PrefixEntry}
use Rattle.network_data.specs.declared.SixLowPanContext.{SixLowPanContext}
use Rattle.network_data.specs.declared.HasRouteEntry.{HasRouteEntry}
use Rattle.network_data.specs.declared.BorderRouterEntry.{BorderRouterEntry}
use Rattle.network_writing.specs.Encode.{item, route_bytes, border_bytes, item_bytes, items_bytes, row_items, context_items, inner_items, prefix_value, prefix_item, network_bytes}
use Rattle.network_writing.specs.Fits.{most_item, route_fits, border_fits, context_fits, prefix_fits, network_fits}
use Rattle.network_writing.specs.Tables.{context_of, prefix_of, prefixes_of, routes_asked, borders_asked}
use Rattle.diag_writing.specs.Pieces.{rows_size, context_size, value_size}
use Rattle.diag_writing.specs.Checks.{prefix_held, entry_fits}
use Rattle.diag_writing.proofs.Both.{both_true, same_test, all_append}
use Rattle.diag_writing.proofs.Folds.{prefixes_size}

-- ---- the size of a prefix

item_size : (m : ℕ) (v : List ℕ) → length (items_bytes (item m v ∷ [])) ≡ 2 + length v
unfolding joined
item_size m v = let a = length-append v [] in omega arith

rows_some : (n b : ℕ) → rows_size (suc n) b ≡ 2 + b
unfolding rows_size
rows_some n b = rw (ne_eqb (suc n) 0 (λ e. omega arith))

rows_none : (k : ℕ) → length (items_bytes []) ≡ rows_size 0 k
unfolding rows_size joined
rows_none k = refl

rows_size_lem : {A : Type 0} (m k : ℕ) (enc : A → List ℕ) → ((x : A) → length (enc x) ≡ k) → (xs : List A) → length (items_bytes (row_items m enc xs)) ≡ rows_size (length xs) (length xs * k)
unfolding row_items
rows_size_lem m k enc size [] = rows_none (0 * k)
rows_size_lem m k enc size (x ∷ xs) =
    item_size m (joined enc (x ∷ xs)) ∙ ap (λ (n : ℕ). 2 + n) (joined_length k enc size (x ∷ xs)) ∙ sym (rows_some (length xs) (length (x ∷ xs) * k))

context_size_lem : (x : Option SixLowPanContext) → length (items_bytes (context_items (context_of x))) ≡ context_size x
unfolding context_items context_size joined
context_size_lem (Some c) = refl
context_size_lem None = refl

route_three : (h : HasRouteEntry) → length (route_bytes h) ≡ 3
unfolding route_bytes
route_three h = refl

border_four : (b : BorderRouterEntry) → length (border_bytes b) ≡ 4
unfolding border_bytes
border_four b = refl

module _ (e : PrefixEntry) (held : prefix_held e ≡ true) where
  prefix_bytes : length (take (bytes_for e.prefix_bit_length) e.prefix) ≡ bytes_for e.prefix_bit_length
  prefix_bytes = eqb-true (length (take (bytes_for e.prefix_bit_length) e.prefix)) (bytes_for e.prefix_bit_length) held

  module _ (hs : List HasRouteEntry) (bs : List BorderRouterEntry) (h : length hs ≡ e.has_routes) (b : length bs ≡ e.border_routers) where
    inner_size : length (items_bytes (inner_items (prefix_of e hs bs)))
        ≡ rows_size e.has_routes (e.has_routes * 3) + (rows_size e.border_routers (e.border_routers * 4) + context_size e.six_low_pan_context)
    unfolding inner_items
    inner_size =
        let rs = row_items 0 route_bytes hs in
        let ts = row_items 4 border_bytes bs in
        let cs = context_items (context_of e.six_low_pan_context) in
        ap length (joined_append item_bytes rs (ts ++ cs)) ∙ length-append (items_bytes rs) (items_bytes (ts ++ cs))
        ∙ rw (joined_append item_bytes ts cs, length-append (items_bytes ts) (items_bytes cs), rows_size_lem 0 3 route_bytes route_three hs, rows_size_lem 4 4 border_bytes border_four bs, context_size_lem e.six_low_pan_context, h, b)

    pub value_size_lem : length (prefix_value (prefix_of e hs bs)) ≡ value_size e
    unfolding prefix_value
    value_size_lem =
        let a = length-append (take (bytes_for e.prefix_bit_length) e.prefix) (items_bytes (inner_items (prefix_of e hs bs))) in
        let p = prefix_bytes in
        let i = inner_size in
        omega arith

    -- it fits where its own tests pass and its rows fit
    prefix_fits_lem : prefix_fits (prefix_of e hs bs)
        ≡ pick (context_fits (context_of e.six_low_pan_context)) (pick (all route_fits hs) (pick (all border_fits bs) (leb (value_size e) most_item) false) false) false
    unfolding prefix_fits
    prefix_fits_lem = rw (held, value_size_lem)

entry_fits_lem : (e : PrefixEntry) → prefix_held e ≡ true → e.has_routes ≤ most_has_routes → e.border_routers ≤ most_border_routers
    → entry_fits e ≡ pick (context_fits (context_of e.six_low_pan_context)) (leb (value_size e) most_item) false
unfolding entry_fits
entry_fits_lem e k h b = rw (k, le-leb e.has_routes most_has_routes h, le-leb e.border_routers most_border_routers b)

entry_held : (e : PrefixEntry) → entry_fits e ≡ true → prefix_held e ≡ true
unfolding entry_fits
entry_held e h = (both_true (prefix_held e) _ h).0

entry_not : (e : PrefixEntry) → prefix_held e ≡ false → entry_fits e ≡ false
unfolding entry_fits
entry_not e h = rw h

prefix_not : (e : PrefixEntry) → prefix_held e ≡ false → (hs : List HasRouteEntry) (bs : List BorderRouterEntry) → prefix_fits (prefix_of e hs bs) ≡ false
unfolding prefix_fits
prefix_not e h hs bs = rw h

-- ---- all of them

regroup : (c v ra rb ba bb n : Bool)
    → pick (pick c (pick ra (pick ba v false) false) false) (pick n (pick rb bb false) false) false ≡ pick (pick (pick c v false) n false) (pick (pick ra rb false) (pick ba bb false) false) false
regroup c v ra rb ba bb n =
    same_test _ _
    (λ h.
    let p = both_true (pick c (pick ra (pick ba v false) false) false) (pick n (pick rb bb false) false) h in
    let a = both_true c (pick ra (pick ba v false) false) p.0 in
    let d = both_true ra (pick ba v false) a.1 in
    let e = both_true ba v d.1 in
    let m = both_true n (pick rb bb false) p.1 in
    let k = both_true rb bb m.1 in
    rw (a.0, d.0, e.0, e.1, m.0, k.0, k.1))
    (λ h.
    let p = both_true (pick (pick c v false) n false) (pick (pick ra rb false) (pick ba bb false) false) h in
    let a = both_true (pick c v false) n p.0 in
    let d = both_true c v a.0 in
    let m = both_true (pick ra rb false) (pick ba bb false) p.1 in
    let k = both_true ra rb m.0 in
    let j = both_true ba bb m.1 in
    rw (d.0, d.1, a.1, k.0, k.1, j.0, j.1))

none_left : {A : Type 0} (f : A → Bool) (xs : List A) → 0 ≡ length xs → true ≡ all f xs
unfolding all
none_left f [] e = refl
none_left f (x ∷ xs) e = absurd (omega arith)

split_all : {A : Type 0} (f : A → Bool) (k : ℕ) (xs : List A) → all f xs ≡ pick (all f (take k xs)) (all f (drop k xs)) false
split_all f k xs = ap (all f) (sym (take-append-drop k xs)) ∙ all_append f (take k xs) (drop k xs)

pub network_fits_lem : (es : List PrefixEntry) (hs : List HasRouteEntry) (bs : List BorderRouterEntry) → routes_asked es ≡ length hs → borders_asked es ≡ length bs
    → routes_asked es ≤ most_has_routes → borders_asked es ≤ most_border_routers
    → network_fits (prefixes_of es hs bs) ≡ pick (all entry_fits es) (pick (all route_fits hs) (all border_fits bs) false) false
unfolding network_fits prefixes_of routes_asked borders_asked all
network_fits_lem [] hs bs h b m n = rw (← none_left route_fits hs h, ← none_left border_fits bs b)
network_fits_lem (e ∷ es) hs bs h b m n =
    let k = e.has_routes in
    let j = e.border_routers in
    let dh = length-drop k hs in
    let db = length-drop j bs in
    let rest = network_fits_lem es (drop k hs) (drop j bs) (omega arith) (omega arith) (omega arith) (omega arith) in
    by_test (prefix_held e)
    (λ held.
    let one = prefix_fits_lem e held (take k hs) (take j bs) (length-take-le k hs (omega arith)) (length-take-le j bs (omega arith)) in
    ap (λ (x : Bool). pick x (network_fits (prefixes_of es (drop k hs) (drop j bs))) false) one
    ∙ ap (λ (x : Bool). pick (pick (context_fits (context_of e.six_low_pan_context)) (pick (all route_fits (take k hs)) (pick (all border_fits (take j bs)) (leb (value_size e) most_item) false) false) false) x false) rest
    ∙ regroup (context_fits (context_of e.six_low_pan_context)) (leb (value_size e) most_item) (all route_fits (take k hs)) (all route_fits (drop k hs)) (all border_fits (take j bs)) (all border_fits (drop j bs)) (all entry_fits es)
    ∙ rw (← split_all route_fits k hs, ← split_all border_fits j bs, ← entry_fits_lem e held (omega arith) (omega arith)))
    (λ not.
    ap (λ (x : Bool). pick x (network_fits (prefixes_of es (drop k hs) (drop j bs))) false) (prefix_not e not (take k hs) (take j bs))
    ∙ ap (λ (x : Bool). pick (pick x (all entry_fits es) false) (pick (all route_fits hs) (all border_fits bs) false) false) (sym (entry_not e not)))

pub network_size_lem : (es : List PrefixEntry) (hs : List HasRouteEntry) (bs : List BorderRouterEntry) → all entry_fits es ≡ true → routes_asked es ≤ length hs → borders_asked es ≤ length bs
    → length (network_bytes (prefixes_of es hs bs)) ≡ prefixes_size es
unfolding network_bytes prefixes_of routes_asked borders_asked prefixes_size joined all
network_size_lem [] hs bs w h b = refl
network_size_lem (e ∷ es) hs bs w h b =
    let k = e.has_routes in
    let j = e.border_routers in
    let dh = length-drop k hs in
    let db = length-drop j bs in
    let p = both_true (entry_fits e) (all entry_fits es) w in
    let v = value_size_lem e (entry_held e p.0) (take k hs) (take j bs) (length-take-le k hs (omega arith)) (length-take-le j bs (omega arith)) in
    let rest = network_size_lem es (drop k hs) (drop j bs) p.1 (omega arith) (omega arith) in
    let a = length-append (prefix_value (prefix_of e (take k hs) (take j bs))) (items_bytes (map prefix_item (prefixes_of es (drop k hs) (drop j bs)))) in
    omega arith
