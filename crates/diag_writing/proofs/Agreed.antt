-- Each field's test by the numbers that are known is the definition's: what it names is lent, and its value fits.
-- Assumes nothing.
use mathlib.Core.Path.{◌≡◌, refl, sym, ap, ◌∙◌}
use mathlib.Core.Bool.{Bool, true, false}
use mathlib.Core.List.{List, [], ◌∷◌, map}
use Prim.Native.Nat.{ℕ, ◌+◌, ◌*◌, ◌/◌, ◌%◌, ◌≤◌}
use native.Mathlib.Omega.{arith}
use native.Mathlib.Nat.{zero-add}
use lib.ListN.{length, take}
use lib.Seq.{length-take-le, take_all}
use lib.Dec.{leb, eqb}
use borrow.Author.Tests.{leb-true, leb-false, le-leb, eqb-true, eq-eqb}
use Rattle.refusal.specs.Sizes.{most_prefixes, most_has_routes, most_border_routers}
use Rattle.refusal.specs.Answer.{pick, Answer, given, absent, refused, on_given}
use Rattle.refusal.specs.Each.{all}
use Rattle.laws.proofs.Tests.{by_test}
use Rattle.laws.proofs.Parts.{length_part}
use Rattle.tables.specs.Fold.{fold}
use Rattle.network_data.specs.declared.Counts.{Counts}
use Rattle.network_data.specs.declared.PrefixEntry.{PrefixEntry}
use Rattle.route64.specs.declared.Route64.{Route64}
use Rattle.diag_rows.specs.declared.Part.{Part}
use Rattle.diag_rows.specs.declared.ChildTableEntry.{ChildTableEntry}
use Rattle.diag_rows.specs.declared.ChildIpv6AddrInfo.{ChildIpv6AddrInfo}
use Rattle.network_writing.specs.Fits.{route_fits, border_fits, network_fits}
use Rattle.network_writing.specs.Tables.{routes_asked, borders_asked}
use Rattle.value_writing.specs.Fits.{route64_fits, child_fits, whole_addresses, list_fits}
use Rattle.record_writing.specs.Fits.{passes, eight_bytes}
use Rattle.record_writing.specs.Lent.{Lent, part_bytes, route_used, network_of, children_of, list_of}
use Rattle.record_writing.specs.Written.{counts_fit, list_inside, enough, routes_counted, tables_agree, children_agree}
use Rattle.diag_writing.specs.Checks.{entry_fits, passed_prefix, list_fits_in}
use Rattle.writing_plans.specs.Used.{children_used, no_prefixes}
use Rattle.writing_plans.specs.Tests.{inside_by, route_by, tables_by, whole_by, children_by, eight_by}
use Rattle.writing_walks.specs.declared.Prefixes.{Prefixes}
use Rattle.writing_walks.specs.declared.Used.{Used}
use Rattle.diag_writing.proofs.Both.{both_true, true_both, pick_more, same_test, Near, near_same}
use Rattle.diag_writing.proofs.Folds.{take_least, prefixes_size, Summed, summed, all_pass}
use Rattle.diag_writing.proofs.Nets.{network_fits_lem}

-- ---- parts
module _ (s : List ℕ) where
  pub part_length : (q : Part) → inside_by (length s) q ≡ true → length (part_bytes s q) ≡ q.len
  part_length q h = length_part s q.start q.len (leb-true (q.start + q.len) (length s) h)

  pub addresses_by : (a : Answer Part) → passes (inside_by (length s)) a ≡ true → passes whole_addresses (on_given (part_bytes s) a) ≡ passes whole_by a
  unfolding passes
  addresses_by (given q) h = ap (λ (n : ℕ). eqb (n % 16) 0) (part_length q h)
  addresses_by absent h = refl
  addresses_by (refused n p i) h = refl

  pub eui64_by : (a : Answer Part) → passes (inside_by (length s)) a ≡ true → passes eight_bytes (on_given (part_bytes s) a) ≡ passes eight_by a
  unfolding passes
  eui64_by (given q) h = ap (λ (n : ℕ). eqb n 8) (part_length q h)
  eui64_by absent h = refl
  eui64_by (refused n p i) h = refl

pub route_by_lem : (t : Route64) (a : Answer Part) → pick (passes (λ (q : Part). routes_counted t) a) (passes route64_fits (on_given (λ (q : Part). route_used t) a)) false ≡ passes (route_by t) a
unfolding passes route_by
route_by_lem t (given q) = refl
route_by_lem t absent = refl
route_by_lem t (refused n p i) = refl

-- ---- child rows
whole_rows : {A : Type 0} (cs : List A) (n : ℕ) → eqb (length (take (n / 3) cs) * 3) n ≡ pick (eqb (n % 3) 0) (leb (n / 3) (length cs)) false
whole_rows cs n =
    by_test (leb (n / 3) (length cs))
    (λ t.
    let k = length-take-le (n / 3) cs (leb-true (n / 3) (length cs) t) in
    same_test (eqb (length (take (n / 3) cs) * 3) n) (pick (eqb (n % 3) 0) (leb (n / 3) (length cs)) false)
    (λ h. let e = eqb-true (length (take (n / 3) cs) * 3) n h in true_both (eqb (n % 3) 0) (leb (n / 3) (length cs)) (eq-eqb (n % 3) 0 (omega arith)) t)
    (λ h.
    let p = both_true (eqb (n % 3) 0) (leb (n / 3) (length cs)) h in
    let e = eqb-true (n % 3) 0 p.0 in
    eq-eqb (length (take (n / 3) cs) * 3) n (omega arith)))
    (λ t.
    let o = leb-false (n / 3) (length cs) t in
    let k = ap length (take_all (n / 3) cs (omega arith)) in
    same_test (eqb (length (take (n / 3) cs) * 3) n) (pick (eqb (n % 3) 0) (leb (n / 3) (length cs)) false)
    (λ h. let e = eqb-true (length (take (n / 3) cs) * 3) n h in absurd (omega arith))
    (λ h.
    let p = both_true (eqb (n % 3) 0) (leb (n / 3) (length cs)) h in
    let w = leb-true (n / 3) (length cs) p.1 in
    absurd (omega arith)))

pub children_by_lem : (cs : List ChildTableEntry) (x : Used) (c : Bool) (a : Answer Part) → x.children_lent ≡ length cs → c ≡ all child_fits (take (children_used a (length cs)) cs)
    → pick (passes (children_agree cs) a) (passes (all child_fits) (on_given (children_of cs) a)) false ≡ passes (children_by x c) a
unfolding passes children_by children_used
children_by_lem cs x c (given q) e k =
    ap (λ (b : Bool). pick b (all child_fits (take (q.len / 3) cs)) false) (whole_rows cs q.len)
    ∙ pick_more (eqb (q.len % 3) 0) (leb (q.len / 3) (length cs)) (all child_fits (take (q.len / 3) cs))
    ∙ rw (e, k ∙ ap (all child_fits) (take_least (q.len / 3) cs))
children_by_lem cs x c absent e k = refl
children_by_lem cs x c (refused n p i) e k = refl

-- ---- address lists
list_by : (s : List ℕ) (x : ChildIpv6AddrInfo) → pick (list_inside s x) (list_fits (list_of s x)) false ≡ list_fits_in (length s) x
unfolding list_fits_in
list_by s x =
    by_test (leb (x.start + x.len) (length s))
    (λ t. rw (t, length_part s x.start x.len (leb-true (x.start + x.len) (length s) t)) (last_true (eqb x.child_id (x.rloc16 % 512)) (eqb (x.len % 16) 0)))
    (λ t. rw t (last_false (eqb x.child_id (x.rloc16 % 512)) (eqb (x.len % 16) 0)))
  where
    last_true : (a b : Bool) → pick a b false ≡ pick a (pick b true false) false
    last_true true true = refl
    last_true true false = refl
    last_true false b = refl

    last_false : (a b : Bool) → false ≡ pick a (pick b false false) false
    last_false true true = refl
    last_false true false = refl
    last_false false b = refl

swap : (a b c d : Bool) → pick (pick a b false) (pick c d false) false ≡ pick (pick a c false) (pick b d false) false
swap true true c d = refl
swap true false true d = refl
swap true false false d = refl
swap false b true d = refl
swap false b false d = refl

pub lists_by_lem : (s : List ℕ) (xs : List ChildIpv6AddrInfo) → pick (all (list_inside s) xs) (all list_fits (map (list_of s) xs)) false ≡ all (list_fits_in (length s)) xs
unfolding all
lists_by_lem s [] = refl
lists_by_lem s (x ∷ xs) =
    swap (list_inside s x) (all (list_inside s) xs) (list_fits (list_of s x)) (all list_fits (map (list_of s) xs)) ∙ rw (list_by s x, lists_by_lem s xs)

-- ---- tables of Network Data
pub record Tabled (x : Used) (f : Prefixes) (h b : Bool) (c : Counts) : Type 0 where
  pub prefixes_lent : c.prefixes ≤ x.prefixes_lent
  pub routes_lent : c.has_routes ≤ x.routes_lent
  pub borders_lent : c.border_routers ≤ x.borders_lent
  pub fits : f.fits ≡ true
  pub routes : f.routes ≡ c.has_routes
  pub borders : f.borders ≡ c.border_routers
  pub routes_fit : h ≡ true
  pub borders_fit : b ≡ true

module _ (x : Used) (f : Prefixes) (h b : Bool) (c : Counts) where
  pub tabled : tables_by x f h b c ≡ true → Tabled x f h b c
  unfolding tables_by
  tabled e =
      let p1 = both_true (leb c.prefixes x.prefixes_lent) _ e in
      let p2 = both_true (leb c.has_routes x.routes_lent) _ p1.1 in
      let p3 = both_true (leb c.border_routers x.borders_lent) _ p2.1 in
      let p4 = both_true f.fits _ p3.1 in
      let p5 = both_true (eqb f.routes c.has_routes) _ p4.1 in
      let p6 = both_true (eqb f.borders c.border_routers) (pick h b false) p5.1 in
      let p7 = both_true h b p6.1 in
      record {
        prefixes_lent = leb-true c.prefixes x.prefixes_lent p1.0;
        routes_lent = leb-true c.has_routes x.routes_lent p2.0;
        borders_lent = leb-true c.border_routers x.borders_lent p3.0;
        fits = p4.0;
        routes = eqb-true f.routes c.has_routes p5.0;
        borders = eqb-true f.borders c.border_routers p6.0;
        routes_fit = p7.0;
        borders_fit = p7.1;
      }

  tabled_back : Tabled x f h b c → tables_by x f h b c ≡ true
  unfolding tables_by
  tabled_back t =
      rw (
        le-leb c.prefixes x.prefixes_lent t.prefixes_lent,
        le-leb c.has_routes x.routes_lent t.routes_lent,
        le-leb c.border_routers x.borders_lent t.borders_lent,
        t.fits,
        eq-eqb f.routes c.has_routes t.routes,
        eq-eqb f.borders c.border_routers t.borders,
        t.routes_fit,
        t.borders_fit,
      )

pub record Few (c : Counts) : Type 0 where
  pub routes : c.has_routes ≤ most_has_routes
  pub borders : c.border_routers ≤ most_border_routers

pub few_counts : (c : Counts) → counts_fit c ≡ true → Few c
unfolding counts_fit
few_counts c e =
    let p = both_true (leb c.prefixes most_prefixes) _ e in
    let q = both_true (leb c.has_routes most_has_routes) (leb c.border_routers most_border_routers) p.1 in
    record { routes = leb-true c.has_routes most_has_routes q.0; borders = leb-true c.border_routers most_border_routers q.1 }

module _ (l : Lent) (x : Used) (f : Prefixes) (h b : Bool) (c : Counts) (ps : x.prefixes_lent ≡ length l.prefixes)
    (hs : x.routes_lent ≡ length l.routes) (bs : x.borders_lent ≡ length l.borders) (small : counts_fit c ≡ true)
    (fis : f ≡ fold passed_prefix no_prefixes (take c.prefixes l.prefixes)) (his : h ≡ all route_fits (take c.has_routes l.routes))
    (bis : b ≡ all border_fits (take c.border_routers l.borders)) where
  abbrev used : List PrefixEntry
  used = take c.prefixes l.prefixes

  -- where the counts agree, the definition's test of the prefixes is the tables'
  module _ (routes : routes_asked used ≡ c.has_routes) (borders : borders_asked used ≡ c.border_routers) (rl : c.has_routes ≤ length l.routes)
      (bl : c.border_routers ≤ length l.borders) where
    network_is : network_fits (network_of l c) ≡ pick (all entry_fits used) (pick h b false) false
    network_is =
        let k = few_counts c small in
        network_fits_lem used (take c.has_routes l.routes) (take c.border_routers l.borders)
        (routes ∙ sym (length-take-le c.has_routes l.routes rl)) (borders ∙ sym (length-take-le c.border_routers l.borders bl)) (omega arith) (omega arith)
        ∙ rw (← his, ← bis)

  summed_used : f.fits ≡ true → Summed no_prefixes (fold passed_prefix no_prefixes used) used
  summed_used e = summed no_prefixes used (ap (λ (y : Prefixes). y.fits) (sym fis) ∙ e)

  -- what the tests found
  pub record Found : Type 0 where
    pub prefixes_lent : c.prefixes ≤ length l.prefixes
    pub routes : routes_asked used ≡ c.has_routes
    pub routes_lent : c.has_routes ≤ length l.routes
    pub borders : borders_asked used ≡ c.border_routers
    pub borders_lent : c.border_routers ≤ length l.borders
    pub fit : all entry_fits used ≡ true
    pub size : Near f.size (prefixes_size used)

  pub found : tables_by x f h b c ≡ true → Found
  found e =
      let t = tabled x f h b c e in
      let s = summed_used t.fits in
      let r = ap (λ (y : Prefixes). y.routes) fis in
      let d = ap (λ (y : Prefixes). y.borders) fis in
      let n = s.size 0 (near_same 0 0 refl) in
      record {
        prefixes_lent = omega (arith, t.prefixes_lent);
        routes = omega (arith, s.routes, t.routes);
        routes_lent = omega (arith, t.routes_lent);
        borders = omega (arith, s.borders, t.borders);
        borders_lent = omega (arith, t.borders_lent);
        fit = s.fit;
        size = rw fis (rw zero-add at n);
      }

  tables_true : tables_by x f h b c ≡ true → pick (tables_agree l c) (network_fits (network_of l c)) false ≡ true
  unfolding tables_agree
  tables_true e =
      let t = tabled x f h b c e in
      let g = found e in
      let s = summed_used t.fits in
      rw (
        le-leb c.prefixes (length l.prefixes) g.prefixes_lent,
        le-leb c.has_routes (length l.routes) g.routes_lent,
        le-leb c.border_routers (length l.borders) g.borders_lent,
        eq-eqb (routes_asked used) c.has_routes g.routes,
        eq-eqb (borders_asked used) c.border_routers g.borders,
      )
      (network_is g.routes g.borders g.routes_lent g.borders_lent ∙ rw (s.fit, t.routes_fit, t.borders_fit))

  tables_back : pick (tables_agree l c) (network_fits (network_of l c)) false ≡ true → tables_by x f h b c ≡ true
  unfolding tables_agree
  tables_back e =
      let p0 = both_true _ (network_fits (network_of l c)) e in
      let p1 = both_true (enough l.prefixes c.prefixes) _ p0.0 in
      let p2 = both_true (enough l.routes c.has_routes) _ p1.1 in
      let p3 = both_true (enough l.borders c.border_routers) _ p2.1 in
      let p4 = both_true (eqb (routes_asked used) c.has_routes) (eqb (borders_asked used) c.border_routers) p3.1 in
      let pl = leb-true c.prefixes (length l.prefixes) p1.0 in
      let rl = leb-true c.has_routes (length l.routes) p2.0 in
      let bl = leb-true c.border_routers (length l.borders) p3.0 in
      let ra = eqb-true (routes_asked used) c.has_routes p4.0 in
      let ba = eqb-true (borders_asked used) c.border_routers p4.1 in
      let k = few_counts c small in
      let n = both_true (all entry_fits used) (pick h b false) (sym (network_is ra ba rl bl) ∙ p0.1) in
      let m = both_true h b n.1 in
      let pass = all_pass no_prefixes used refl (omega arith) (omega arith) n.0 in
      let s = summed no_prefixes used pass in
      let r = ap (λ (y : Prefixes). y.routes) fis in
      let d = ap (λ (y : Prefixes). y.borders) fis in
      tabled_back x f h b c
      record {
        prefixes_lent = omega arith;
        routes_lent = omega arith;
        borders_lent = omega arith;
        fits = ap (λ (y : Prefixes). y.fits) fis ∙ pass;
        routes = omega (arith, s.routes);
        borders = omega (arith, s.borders);
        routes_fit = m.0;
        borders_fit = m.1;
      }

  pub tables_by_lem : pick (tables_agree l c) (network_fits (network_of l c)) false ≡ tables_by x f h b c
  tables_by_lem = same_test (pick (tables_agree l c) (network_fits (network_of l c)) false) (tables_by x f h b c) tables_back tables_true
