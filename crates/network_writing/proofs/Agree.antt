-- Document 02, One, for Network Data: "Reading what was written gives the record back, unused places of fixed arrays aside". Tables whose row counts agree say
-- prefixes whose rows are all of their rows, so that what is read back is the tables: `tables_back`.
-- Assumes nothing.
use mathlib.Core.Path.{◌≡◌, refl, sym, ap, ◌∙◌}
use mathlib.Core.Bool.{true}
use mathlib.Core.List.{List, [], ◌∷◌, ◌++◌, map}
use Prim.Native.Nat.{ℕ, zero, suc, ◌-◌, ◌≤◌}
use native.Mathlib.Omega.{arith}
use lib.ListN.{length, take, drop, length-drop, take-append-drop}
use lib.Seq.{take-take, length-take-le, take-nil, drop-nil}
use Rattle.std.specs.Prelude.{Option, Some, None}
use Rattle.refusal.specs.Sizes.{most_bytes, most_prefixes, most_has_routes, most_border_routers}
use Rattle.refusal.specs.Answer.{given}
use Rattle.network_data.specs.Decode.{Prefix, opt_context, entry_of, all_routes, all_borders, decode_network_data}
use Rattle.network_data.specs.declared.HasRouteEntry.{HasRouteEntry}
use Rattle.network_data.specs.declared.BorderRouterEntry.{BorderRouterEntry}
use Rattle.network_data.specs.declared.PrefixEntry.{PrefixEntry}
use Rattle.network_data.specs.declared.SixLowPanContext.{SixLowPanContext}
use Rattle.network_writing.specs.Encode.{network_bytes}
use Rattle.network_writing.specs.Fits.{network_fits}
use Rattle.network_writing.proofs.Round.{Small, network_back}
use Rattle.network_writing.specs.Tables.{context_of, prefix_of, prefixes_of, routes_asked, borders_asked, tidied}

empty : {A : Type 0} (l : List A) → length l ≡ 0 → [] ≡ l
empty [] e = refl
empty (x ∷ l) e = absurd (omega arith)

-- ---- all rows are the prefixes'
pub all_routes_lem : (es : List PrefixEntry) (hs : List HasRouteEntry) (bs : List BorderRouterEntry) → routes_asked es ≡ length hs → all_routes (prefixes_of es hs bs) ≡ hs
unfolding routes_asked prefixes_of all_routes
all_routes_lem [] hs bs e = empty hs (sym e)
all_routes_lem (p ∷ es) hs bs e =
    let n = length-drop p.has_routes hs in
    ap (λ (l : List HasRouteEntry). take p.has_routes hs ++ l) (all_routes_lem es (drop p.has_routes hs) (drop p.border_routers bs) (omega arith))
    ∙ take-append-drop p.has_routes hs

pub all_borders_lem : (es : List PrefixEntry) (hs : List HasRouteEntry) (bs : List BorderRouterEntry) → borders_asked es ≡ length bs → all_borders (prefixes_of es hs bs) ≡ bs
unfolding borders_asked prefixes_of all_borders
all_borders_lem [] hs bs e = empty bs (sym e)
all_borders_lem (p ∷ es) hs bs e =
    let n = length-drop p.border_routers bs in
    ap (λ (l : List BorderRouterEntry). take p.border_routers bs ++ l) (all_borders_lem es (drop p.has_routes hs) (drop p.border_routers bs) (omega arith))
    ∙ take-append-drop p.border_routers bs

pub as_many : (es : List PrefixEntry) (hs : List HasRouteEntry) (bs : List BorderRouterEntry) → length (prefixes_of es hs bs) ≡ length es
unfolding prefixes_of
as_many [] hs bs = refl
as_many (p ∷ es) hs bs = ap suc (as_many es (drop p.has_routes hs) (drop p.border_routers bs))

-- ---- their records
context_back : (x : Option SixLowPanContext) → opt_context (context_of x) ≡ x
unfolding opt_context
context_back (Some c) = refl
context_back None = refl

entry_back : (e : PrefixEntry) (hs : List HasRouteEntry) (bs : List BorderRouterEntry) → length hs ≡ e.has_routes → length bs ≡ e.border_routers → entry_of (prefix_of e hs bs) ≡ tidied e
unfolding entry_of
entry_back e hs bs h b = rw (context_back e.six_low_pan_context, h, b)

pub entries_back : (es : List PrefixEntry) (hs : List HasRouteEntry) (bs : List BorderRouterEntry) → routes_asked es ≤ length hs → borders_asked es ≤ length bs
    → map entry_of (prefixes_of es hs bs) ≡ map tidied es
unfolding routes_asked borders_asked prefixes_of
entries_back [] hs bs h b = refl
entries_back (e ∷ es) hs bs h b =
    let m = length-drop e.has_routes hs in
    let n = length-drop e.border_routers bs in
    ap (λ (x : PrefixEntry). x ∷ map entry_of (prefixes_of es (drop e.has_routes hs) (drop e.border_routers bs)))
    (entry_back e (take e.has_routes hs) (take e.border_routers bs) (length-take-le e.has_routes hs (omega arith)) (length-take-le e.border_routers bs (omega arith)))
    ∙ ap (λ (l : List PrefixEntry). tidied e ∷ l) (entries_back es (drop e.has_routes hs) (drop e.border_routers bs) (omega arith) (omega arith))

-- ---- the tables come back
module _ (es : List PrefixEntry) (hs : List HasRouteEntry) (bs : List BorderRouterEntry) (h : routes_asked es ≡ length hs) (b : borders_asked es ≡ length bs)
    (few : length es ≤ most_prefixes) (rows : length hs ≤ most_has_routes) (also : length bs ≤ most_border_routers) where
  pub small : Small (prefixes_of es hs bs)
  small = record {
    prefixes = omega (arith, as_many es hs bs);
    routes = omega (arith, ap length (all_routes_lem es hs bs h));
    borders = omega (arith, ap length (all_borders_lem es hs bs b));
  }

  module _ (fits : network_fits (prefixes_of es hs bs) ≡ true) (short : length (network_bytes (prefixes_of es hs bs)) ≤ most_bytes) where
    -- what is read: its records are the tables
    pub record Back (ps : List Prefix) : Type 0 where
      pub prefixes : map entry_of ps ≡ map tidied es
      pub routes : all_routes ps ≡ hs
      pub borders : all_borders ps ≡ bs

    pub tables_back : (q : ℕ) → (decode_network_data q (network_bytes (prefixes_of es hs bs)) ≡ given (prefixes_of es hs bs)) × Back (prefixes_of es hs bs)
    tables_back q = (
      network_back (prefixes_of es hs bs) fits q small short,
      record { prefixes = entries_back es hs bs (omega arith) (omega arith); routes = all_routes_lem es hs bs h; borders = all_borders_lem es hs bs b },
    )

-- ---- the used part of a longer table
drop_take : {A : Type 0} (k n : ℕ) (l : List A) → drop k (take n l) ≡ take (n - k) (drop k l)
drop_take zero n l = let z : n ≡ n - 0 = omega arith in ap (λ (m : ℕ). take m l) z
drop_take (suc k) zero l = let z : 0 - suc k ≡ 0 = omega arith in drop-nil (suc k) ∙ ap (λ (m : ℕ). take m (drop (suc k) l)) (sym z)
drop_take (suc k) (suc n) [] = sym (take-nil (suc n - suc k))
drop_take (suc k) (suc n) (x ∷ l) = let z : n - k ≡ suc n - suc k = omega arith in drop_take k n l ∙ ap (λ (m : ℕ). take m (drop k l)) z

pub used_rows : (es : List PrefixEntry) (hs : List HasRouteEntry) (bs : List BorderRouterEntry) (hn bn : ℕ) → routes_asked es ≤ hn → borders_asked es ≤ bn
    → prefixes_of es hs bs ≡ prefixes_of es (take hn hs) (take bn bs)
unfolding routes_asked borders_asked prefixes_of
used_rows [] hs bs hn bn h b = refl
used_rows (e ∷ es) hs bs hn bn h b =
    ap (λ (l : List Prefix). prefix_of e (take e.has_routes hs) (take e.border_routers bs) ∷ l)
    (used_rows es (drop e.has_routes hs) (drop e.border_routers bs) (hn - e.has_routes) (bn - e.border_routers) (omega arith) (omega arith))
    ∙ rw (take-take e.has_routes hn hs (omega arith), take-take e.border_routers bn bs (omega arith), drop_take e.has_routes hn hs, drop_take e.border_routers bn bs)
