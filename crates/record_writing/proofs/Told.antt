-- What it tells that a record is written: none of the refusals, "all at place 0: 12 ...; then 15 if ...; both after 13 and before 10" (document 02, One),
-- was met. This is `told`.
-- Assumes nothing.
use mathlib.Core.Path.{◌≡◌, refl}
use mathlib.Core.Bool.{Bool, true, false}
use mathlib.Core.List.{List, [], ◌∷◌, map}
use Prim.Native.Nat.{ℕ, ◌≤◌, ◌<◌}
use native.Mathlib.Omega.{arith}
use lib.ListN.{length, take}
use lib.Seq.{length-take-le}
use lib.Dec.{leb, eqb}
use borrow.Author.Tests.{leb-true, eqb-true}
use Rattle.refusal.specs.Sizes.{most_prefixes, most_has_routes, most_border_routers}
use Rattle.refusal.specs.Every.{Every}
use Rattle.refusal.specs.Answer.{pick, Answer, given, absent, refused, on_given}
use Rattle.refusal.specs.Each.{all}
use Rattle.refusal.specs.Results.{option_of}
use Rattle.laws.proofs.Bits.{both}
use Rattle.laws.proofs.Parts.{every_take}
use Rattle.tlv_writing.specs.Encode.{sized}
use Rattle.network_data.specs.declared.Counts.{Counts}
use Rattle.route64.specs.Routes.{Route}
use Rattle.diag_rows.specs.declared.Part.{Part}
use Rattle.diag_rows.specs.declared.ChildIpv6AddrInfo.{ChildIpv6AddrInfo}
use Rattle.diag.specs.declared.NetDiagData.{NetDiagData}
use Rattle.network_writing.specs.Tables.{routes_asked, borders_asked}
use Rattle.network_writing.proofs.Round.{Small}
use Rattle.network_writing.proofs.Agree.{small}
use Rattle.value_writing.specs.Encode.{ListValue}
use Rattle.record_writing.specs.Values.{entries_of}
use Rattle.record_writing.specs.Typed.{Given, Typed}
use Rattle.record_writing.specs.Fits.{passes, within_sizes, tables_fit, values_fit}
use Rattle.record_writing.specs.Lent.{Lent, route_used, opt_counts, network_of, list_of, values_of}
use Rattle.record_writing.specs.Written.{lengths_fit, counts_fit, parts_inside, enough, routes_counted, tables_agree, children_agree, list_inside, lists_of, agrees, written}
use Rattle.record_writing.specs.Machine.{Machine}
use Rattle.record_writing.proofs.Again.{within}

-- ---- the refusals one by one

picked : {A : Type 0} (b : Bool) (x : Answer A) (n p i : ℕ) (y : A) → pick b x (refused n p i) ≡ given y → (b ≡ true) × (x ≡ given y)
picked true x n p i y e = (refl, e)
picked false x n p i y e = absurd (let z : ◌≡◌ {A = ℕ} 0 1 = cc in omega arith)

-- the tests of 15 that are the call's own
pub record Agreed (r : NetDiagData) (l : Lent) : Type 0 where
  pub parts : parts_inside r l.bytes ≡ true
  pub routers : passes (λ (q : Part). routes_counted l.route64) (option_of r.route64) ≡ true
  pub tables : passes (tables_agree l) (opt_counts r.network_data) ≡ true
  pub children : passes (children_agree l.children) (option_of r.child_table) ≡ true
  pub count : r.child_ipv6_addresses ≤ length l.lists
  pub lists : all (list_inside l.bytes) (lists_of r l) ≡ true

agreed : (r : NetDiagData) (l : Lent) → agrees r l ≡ true → Agreed r l
unfolding agrees
agreed r l h =
    let a = both (parts_inside r l.bytes) _ h in
    let b = both (passes (λ (q : Part). routes_counted l.route64) (option_of r.route64)) _ a.1 in
    let c = both (passes (tables_agree l) (opt_counts r.network_data)) _ b.1 in
    let d = both (passes (children_agree l.children) (option_of r.child_table)) _ c.1 in
    let e = both (enough l.lists r.child_ipv6_addresses) _ d.1 in
    record { parts = a.0; routers = b.0; tables = c.0; children = d.0; count = leb-true _ _ e.0; lists = e.1 }

-- ---- the three tables of Network Data

pub record Counted (l : Lent) (c : Counts) : Type 0 where
  pub prefixes : c.prefixes ≤ length l.prefixes
  pub routes : c.has_routes ≤ length l.routes
  pub borders : c.border_routers ≤ length l.borders
  pub routes_all : routes_asked (take c.prefixes l.prefixes) ≡ length (take c.has_routes l.routes)
  pub borders_all : borders_asked (take c.prefixes l.prefixes) ≡ length (take c.border_routers l.borders)

pub counted : (l : Lent) (c : Counts) → tables_agree l c ≡ true → Counted l c
unfolding tables_agree
counted l c h =
    let x = both (enough l.prefixes c.prefixes) _ h in
    let y = both (enough l.routes c.has_routes) _ x.1 in
    let z = both (enough l.borders c.border_routers) _ y.1 in
    let w = both (eqb (routes_asked (take c.prefixes l.prefixes)) c.has_routes) _ z.1 in
    let m = length-take-le c.has_routes l.routes (leb-true _ _ y.0) in
    let n = length-take-le c.border_routers l.borders (leb-true _ _ z.0) in
    let asked = eqb-true (routes_asked (take c.prefixes l.prefixes)) c.has_routes w.0 in
    let also = eqb-true (borders_asked (take c.prefixes l.prefixes)) c.border_routers w.1 in
    record { prefixes = leb-true _ _ x.0; routes = leb-true _ _ y.0; borders = leb-true _ _ z.0; routes_all = omega arith; borders_all = omega arith }

pub record Few (c : Counts) : Type 0 where
  pub prefixes : c.prefixes ≤ most_prefixes
  pub routes : c.has_routes ≤ most_has_routes
  pub borders : c.border_routers ≤ most_border_routers

few : (c : Counts) → counts_fit c ≡ true → Few c
unfolding counts_fit
few c h =
    let x = both (leb c.prefixes most_prefixes) _ h in
    let y = both (leb c.has_routes most_has_routes) _ x.1 in
    record { prefixes = leb-true _ _ x.0; routes = leb-true _ _ y.0; borders = leb-true _ _ y.1 }

network_small : (l : Lent) (c : Counts) → Few c → Counted l c → Small (network_of l c)
network_small l c f k =
    let p = length-take-le c.prefixes l.prefixes k.prefixes in
    let h = length-take-le c.has_routes l.routes k.routes in
    let b = length-take-le c.border_routers l.borders k.borders in
    small (take c.prefixes l.prefixes) (take c.has_routes l.routes) (take c.border_routers l.borders) k.routes_all k.borders_all
    (omega (arith, f.prefixes)) (omega (arith, f.routes)) (omega (arith, f.borders))

tables_fit_lem : (l : Lent) (a : Answer Counts) → passes counts_fit a ≡ true → passes (tables_agree l) a ≡ true → passes within_sizes (on_given (network_of l) a) ≡ true
unfolding passes
tables_fit_lem l (given c) f t = within (network_of l c) (network_small l c (few c f) (counted l c t))
tables_fit_lem l absent f t = refl
tables_fit_lem l (refused n p i) f t = refl

-- ---- the whole

pub record Told (r : NetDiagData) (l : Lent) (bs : List ℕ) : Type 0 where
  pub lengths : lengths_fit r l ≡ true
  pub counts : passes counts_fit (opt_counts r.network_data) ≡ true
  pub agreed : Agreed r l
  pub tables : tables_fit (values_of r l) ≡ true
  pub fits : values_fit (values_of r l) ≡ true
  pub bytes : sized (entries_of (values_of r l)) ≡ given bs

pub told : (r : NetDiagData) (l : Lent) (bs : List ℕ) → written r l ≡ given bs → Told r l bs
unfolding written tables_fit values_of
told r l bs e =
    let a = picked (lengths_fit r l) _ 13 0 0 bs e in
    let b = picked (passes counts_fit (opt_counts r.network_data)) _ 12 0 0 bs a.1 in
    let c = picked (agrees r l) _ 15 0 0 bs b.1 in
    let d = picked (values_fit (values_of r l)) _ 15 0 0 bs c.1 in
    let g = agreed r l c.0 in
    record { lengths = a.0; counts = b.0; agreed = g; tables = tables_fit_lem l (opt_counts r.network_data) b.0 g.tables; fits = d.0; bytes = d.1 }

-- ---- the numbers of a call's record are within their widths

mask_typed : (l : Lent) → length l.route64.mask ≡ 8 → (a : Answer Part)
    → Given (λ (x : Route). length x.mask ≡ 8) (on_given (λ (q : Part). route_used l.route64) a)
mask_typed l m (given q) = m
mask_typed l m absent = tt
mask_typed l m (refused n p i) = tt

lists_typed : (s : List ℕ) (xs : List ChildIpv6AddrInfo) → Every (λ (x : ChildIpv6AddrInfo). x.rloc16 < 65536) xs
    → Every (λ (x : ListValue). x.rloc16 < 65536) (map (list_of s) xs)
lists_typed s [] h = tt
lists_typed s (x ∷ xs) h = (h.0, lists_typed s xs h.1)

pub typed : (r : NetDiagData) (l : Lent) → Machine r l → Typed (values_of r l)
unfolding values_of
typed r l m = record {
  mac_addr = m.mac_addr;
  timeout = m.timeout;
  connectivity = m.connectivity;
  route64 = mask_typed l m.mask (option_of r.route64);
  leader_data = m.leader_data;
  mac_counters = m.mac_counters;
  supply_voltage = m.supply_voltage;
  child_lists = lists_typed l.bytes (lists_of r l) (every_take _ r.child_ipv6_addresses l.lists m.lists);
}
