-- The tests that the plan makes by numbers are the definition's tests of 13 and of 15.
-- Assumes nothing.
use mathlib.Core.Path.{◌≡◌, refl, sym, ap, ◌∙◌}
use mathlib.Core.Bool.{Bool, true, false}
use mathlib.Core.List.{List, map}
use Prim.Native.Nat.{ℕ}
use native.Mathlib.Nat.{zero-add}
use lib.ListN.{length, take}
use lib.Dec.{leb}
use Rattle.std.specs.Prelude.{Option, Some, None}
use Rattle.refusal.specs.Answer.{pick, on_given}
use Rattle.refusal.specs.Each.{all}
use Rattle.refusal.specs.Results.{option_of}
use Rattle.tables.specs.Fold.{fold}
use Rattle.route64.specs.declared.Route64.{Route64}
use Rattle.diag_rows.specs.declared.Part.{Part}
use Rattle.diag.specs.Answers.{opt_connectivity}
use Rattle.diag.specs.declared.NetworkDataPart.{NetworkDataPart}
use Rattle.diag.specs.declared.NetDiagData.{NetDiagData}
use Rattle.network_writing.specs.Fits.{route_fits, border_fits, network_fits}
use Rattle.value_writing.specs.Fits.{connectivity_fits, route64_fits, child_fits, whole_addresses, list_fits}
use Rattle.record_writing.specs.Fits.{passes, eight_bytes, values_fit}
use Rattle.record_writing.specs.Lent.{Lent, part_bytes, route_used, opt_counts, network_of, children_of, list_of, values_of}
use Rattle.record_writing.specs.Written.{short_part, short_list, parts_short, lists_of, lengths_fit, counts_fit, inside, parts_inside, list_inside, enough, routes_counted, tables_agree, children_agree, agrees}
use Rattle.diag_writing.specs.Checks.{passed_prefix, list_fits_in, passed_list}
use Rattle.writing_plans.specs.Used.{least, counts_in, children_used, no_prefixes, no_lists, used_of}
use Rattle.writing_plans.specs.Tests.{lengths_by, inside_by, parts_inside_by, route_by, tables_by, whole_by, children_by, eight_by, lists_by, bytes_by, links_by, fits_by}
use Rattle.diag_writing.specs.Plans.{Scanned}
use Rattle.writing_walks.specs.declared.Prefixes.{Prefixes}
use Rattle.writing_walks.specs.declared.Lists.{Lists}
use Rattle.writing_walks.specs.declared.Used.{Used}
use Rattle.diag_writing.proofs.Both.{both_true, true_both, same_test, Near, near_same}
use Rattle.diag_writing.proofs.Folds.{take_least, lists_size, listing}
use Rattle.diag_writing.proofs.Agreed.{addresses_by, eui64_by, route_by_lem, children_by_lem, lists_by_lem, tables_by_lem}

-- ---- parts
pub record Insides (r : NetDiagData) (n : ℕ) : Type 0 where
  pub ext_mac_addr : passes (inside_by n) (option_of r.ext_mac_addr) ≡ true
  pub addresses : passes (inside_by n) (option_of r.addresses) ≡ true
  pub channel_pages : passes (inside_by n) (option_of r.channel_pages) ≡ true
  pub type_list : passes (inside_by n) (option_of r.type_list) ≡ true
  pub eui64 : passes (inside_by n) (option_of r.eui64) ≡ true

pub insides : (r : NetDiagData) (n : ℕ) → parts_inside_by r n ≡ true → Insides r n
unfolding parts_inside_by all
insides r n h =
    let a = both_true (passes (inside_by n) (option_of r.ext_mac_addr)) _ h in
    let b = both_true (passes (inside_by n) (option_of r.addresses)) _ a.1 in
    let c = both_true (passes (inside_by n) (option_of r.channel_pages)) _ b.1 in
    let d = both_true (passes (inside_by n) (option_of r.type_list)) _ c.1 in
    let e = both_true (passes (inside_by n) (option_of r.eui64)) true d.1 in
    record { ext_mac_addr = a.0; addresses = b.0; channel_pages = c.0; type_list = d.0; eui64 = e.0 }

pub record Shorts (r : NetDiagData) : Type 0 where
  pub ext_mac_addr : passes short_part (option_of r.ext_mac_addr) ≡ true
  pub addresses : passes short_part (option_of r.addresses) ≡ true
  pub child_table : passes short_part (option_of r.child_table) ≡ true
  pub channel_pages : passes short_part (option_of r.channel_pages) ≡ true
  pub type_list : passes short_part (option_of r.type_list) ≡ true

pub shorts : (r : NetDiagData) → parts_short r ≡ true → Shorts r
unfolding parts_short all
shorts r h =
    let a = both_true (passes short_part (option_of r.ext_mac_addr)) _ h in
    let b = both_true (passes short_part (option_of r.addresses)) _ a.1 in
    let c = both_true (passes short_part (option_of r.child_table)) _ b.1 in
    let d = both_true (passes short_part (option_of r.channel_pages)) _ c.1 in
    let e = both_true (passes short_part (option_of r.type_list)) true d.1 in
    record { ext_mac_addr = a.0; addresses = b.0; child_table = c.0; channel_pages = d.0; type_list = e.0 }

same_inside : (r : NetDiagData) (s : List ℕ) → parts_inside r s ≡ parts_inside_by r (length s)
unfolding parts_inside parts_inside_by
same_inside r s = refl

-- ---- what was found in the tables
module _ (r : NetDiagData) (l : Lent) (t : Route64) (x : Used) (f : Prefixes) (h b c : Bool) (ls : Lists) (s : Scanned r l t x f h b c ls) where
  pub bytes_are : x.bytes ≡ length l.bytes
  unfolding used_of
  bytes_are = ap (λ (y : Used). y.bytes) s.used

  pub prefixes_lent : x.prefixes_lent ≡ length l.prefixes
  unfolding used_of
  prefixes_lent = ap (λ (y : Used). y.prefixes_lent) s.used

  pub routes_lent : x.routes_lent ≡ length l.routes
  unfolding used_of
  routes_lent = ap (λ (y : Used). y.routes_lent) s.used

  pub borders_lent : x.borders_lent ≡ length l.borders
  unfolding used_of
  borders_lent = ap (λ (y : Used). y.borders_lent) s.used

  pub children_lent : x.children_lent ≡ length l.children
  unfolding used_of
  children_lent = ap (λ (y : Used). y.children_lent) s.used

  pub lists_lent_lem : x.lists_lent ≡ length l.lists
  unfolding used_of
  lists_lent_lem = ap (λ (y : Used). y.lists_lent) s.used

  pub prefixes_used : x.prefixes ≡ least (counts_in r.network_data).prefixes (length l.prefixes)
  unfolding used_of
  prefixes_used = ap (λ (y : Used). y.prefixes) s.used

  pub children_used_lem : x.children ≡ children_used (option_of r.child_table) (length l.children)
  unfolding used_of
  children_used_lem = ap (λ (y : Used). y.children) s.used

  pub lists_used : x.lists ≡ least r.child_ipv6_addresses (length l.lists)
  unfolding used_of
  lists_used = ap (λ (y : Used). y.lists) s.used

  pub prefixes_are : f ≡ fold passed_prefix no_prefixes (take (counts_in r.network_data).prefixes l.prefixes)
  unfolding used_of
  prefixes_are =
      s.prefixes ∙ rw (prefixes_used, take_least (counts_in r.network_data).prefixes l.prefixes)

  pub routes_are : h ≡ all route_fits (take (counts_in r.network_data).has_routes l.routes)
  unfolding used_of
  routes_are =
      let u = ap (λ (y : Used). y.routes) s.used in
      s.routes ∙ rw (u, take_least (counts_in r.network_data).has_routes l.routes)

  pub borders_are : b ≡ all border_fits (take (counts_in r.network_data).border_routers l.borders)
  unfolding used_of
  borders_are =
      let u = ap (λ (y : Used). y.borders) s.used in
      s.borders ∙ rw (u, take_least (counts_in r.network_data).border_routers l.borders)

  pub children_are_lem : c ≡ all child_fits (take (children_used (option_of r.child_table) (length l.children)) l.children)
  unfolding used_of
  children_are_lem = s.children ∙ rw children_used_lem

  pub record Listed : Type 0 where
    pub short : ls.short ≡ all short_list (lists_of r l)
    pub fits : ls.fits ≡ all (list_fits_in (length l.bytes)) (lists_of r l)
    pub size : Near ls.size (lists_size (lists_of r l))

  lists_are : ls ≡ fold passed_list (no_lists (length l.bytes)) (lists_of r l)
  unfolding used_of
  lists_are =
      s.lists ∙ rw (lists_used, take_least r.child_ipv6_addresses l.lists)

  pub listed : Listed
  listed =
      let g = listing (no_lists (length l.bytes)) (lists_of r l) in
      let n = g.size 0 (near_same 0 0 refl) in
      record {
        short = ap (λ (y : Lists). y.short) lists_are ∙ g.short;
        fits = ap (λ (y : Lists). y.fits) lists_are ∙ g.fits;
        size = rw lists_are (rw zero-add at n);
      }

  -- ---- 13
  pub lengths_are : lengths_by r ls ≡ lengths_fit r l
  unfolding lengths_by lengths_fit
  lengths_are = rw listed.short

  -- ---- 15
  pub record Good : Type 0 where
    pub inside : parts_inside_by r (length l.bytes) ≡ true
    pub whole : passes whole_by (option_of r.addresses) ≡ true
    pub eight : passes eight_by (option_of r.eui64) ≡ true
    pub lists_lent : leb r.child_ipv6_addresses (length l.lists) ≡ true
    pub lists_fit : all (list_fits_in (length l.bytes)) (lists_of r l) ≡ true
    pub connectivity : passes connectivity_fits (opt_connectivity r.connectivity) ≡ true
    pub route : passes (route_by l.route64) (option_of r.route64) ≡ true
    pub tables : passes (tables_by x f h b) (opt_counts r.network_data) ≡ true
    pub children : passes (children_by x c) (option_of r.child_table) ≡ true

  pub good : fits_by r t x f h b c ls ≡ true → Good
  unfolding fits_by bytes_by links_by lists_by
  good e =
      let a = both_true (bytes_by r x ls) _ e in
      let d = both_true (links_by r t) _ a.1 in
      let g = both_true (passes (tables_by x f h b) (opt_counts r.network_data)) (passes (children_by x c) (option_of r.child_table)) d.1 in
      let i = both_true (parts_inside_by r x.bytes) _ a.0 in
      let j = both_true (passes whole_by (option_of r.addresses)) _ i.1 in
      let k = both_true (passes eight_by (option_of r.eui64)) (lists_by r x ls) j.1 in
      let m = both_true (leb r.child_ipv6_addresses x.lists_lent) ls.fits k.1 in
      let o = both_true (passes connectivity_fits (opt_connectivity r.connectivity)) (passes (route_by t) (option_of r.route64)) d.0 in
      record {
        inside = rw bytes_are at i.0;
        whole = j.0;
        eight = k.0;
        lists_lent = rw lists_lent_lem at m.0;
        lists_fit = sym listed.fits ∙ m.1;
        connectivity = o.0;
        route = rw s.route64 at o.1;
        tables = g.0;
        children = g.1;
      }

  good_back : Good → fits_by r t x f h b c ls ≡ true
  unfolding fits_by bytes_by links_by lists_by passes tables_by children_by
  good_back g =
      rw (bytes_are, g.inside, g.whole, g.eight, lists_lent_lem, g.lists_lent, listed.fits, g.lists_fit, g.connectivity, s.route64, g.route, g.tables, g.children)

  tables_all : (y : Option NetworkDataPart) → f ≡ fold passed_prefix no_prefixes (take (counts_in y).prefixes l.prefixes) → h ≡ all route_fits (take (counts_in y).has_routes l.routes)
      → b ≡ all border_fits (take (counts_in y).border_routers l.borders) → passes counts_fit (opt_counts y) ≡ true
      → pick (passes (tables_agree l) (opt_counts y)) (passes network_fits (on_given (network_of l) (opt_counts y))) false ≡ passes (tables_by x f h b) (opt_counts y)
  unfolding passes counts_in
  tables_all (Some z) fis his bis small = tables_by_lem l x f h b z.counts prefixes_lent routes_lent borders_lent small fis his bis
  tables_all None fis his bis small = refl

  module _ (small : passes counts_fit (opt_counts r.network_data) ≡ true) where
    tables_is : pick (passes (tables_agree l) (opt_counts r.network_data)) (passes network_fits (on_given (network_of l) (opt_counts r.network_data))) false
        ≡ passes (tables_by x f h b) (opt_counts r.network_data)
    tables_is = tables_all r.network_data prefixes_are routes_are borders_are small

    children_is : pick (passes (children_agree l.children) (option_of r.child_table)) (passes (all child_fits) (on_given (children_of l.children) (option_of r.child_table))) false
        ≡ passes (children_by x c) (option_of r.child_table)
    children_is = children_by_lem l.children x c (option_of r.child_table) children_lent children_are_lem

    -- what the definition asks, test by test
    pub record Asked : Type 0 where
      pub counted : passes (λ (q : Part). routes_counted l.route64) (option_of r.route64) ≡ true
      pub route : passes route64_fits (on_given (λ (q : Part). route_used l.route64) (option_of r.route64)) ≡ true
      pub agree : passes (tables_agree l) (opt_counts r.network_data) ≡ true
      pub network : passes network_fits (on_given (network_of l) (opt_counts r.network_data)) ≡ true
      pub children_are : passes (children_agree l.children) (option_of r.child_table) ≡ true
      pub children : passes (all child_fits) (on_given (children_of l.children) (option_of r.child_table)) ≡ true
      pub lists_inside : all (list_inside l.bytes) (lists_of r l) ≡ true
      pub lists : all list_fits (map (list_of l.bytes) (lists_of r l)) ≡ true
      pub whole : passes whole_addresses (on_given (part_bytes l.bytes) (option_of r.addresses)) ≡ true
      pub eight : passes eight_bytes (on_given (part_bytes l.bytes) (option_of r.eui64)) ≡ true

    pub asked : Good → Asked
    asked g =
        let i = insides r (length l.bytes) g.inside in
        let a = both_true _ _ (route_by_lem l.route64 (option_of r.route64) ∙ g.route) in
        let d = both_true _ _ (tables_is ∙ g.tables) in
        let e = both_true _ _ (children_is ∙ g.children) in
        let k = both_true _ _ (lists_by_lem l.bytes (lists_of r l) ∙ g.lists_fit) in
        record {
          counted = a.0;
          route = a.1;
          agree = d.0;
          network = d.1;
          children_are = e.0;
          children = e.1;
          lists_inside = k.0;
          lists = k.1;
          whole = addresses_by l.bytes (option_of r.addresses) i.addresses ∙ g.whole;
          eight = eui64_by l.bytes (option_of r.eui64) i.eui64 ∙ g.eight;
        }

    good_written : Good → pick (agrees r l) (values_fit (values_of r l)) false ≡ true
    unfolding agrees values_fit values_of
    good_written g =
        let a = asked g in
        true_both (agrees r l) (values_fit (values_of r l))
        (rw (same_inside r l.bytes, g.inside, a.counted, a.agree, a.children_are, g.lists_lent, a.lists_inside))
        (rw (g.connectivity, a.route, a.network, a.whole, a.children, a.eight, a.lists))

    written_good : pick (agrees r l) (values_fit (values_of r l)) false ≡ true → Good
    unfolding agrees values_fit values_of
    written_good e =
        let p = both_true (agrees r l) (values_fit (values_of r l)) e in
        let a1 = both_true (parts_inside r l.bytes) _ p.0 in
        let a2 = both_true (passes (λ (q : Part). routes_counted l.route64) (option_of r.route64)) _ a1.1 in
        let a3 = both_true (passes (tables_agree l) (opt_counts r.network_data)) _ a2.1 in
        let a4 = both_true (passes (children_agree l.children) (option_of r.child_table)) _ a3.1 in
        let a5 = both_true (enough l.lists r.child_ipv6_addresses) (all (list_inside l.bytes) (lists_of r l)) a4.1 in
        let v1 = both_true (passes connectivity_fits (opt_connectivity r.connectivity)) _ p.1 in
        let v2 = both_true (passes route64_fits (on_given (λ (q : Part). route_used l.route64) (option_of r.route64))) _ v1.1 in
        let v3 = both_true (passes network_fits (on_given (network_of l) (opt_counts r.network_data))) _ v2.1 in
        let v4 = both_true (passes whole_addresses (on_given (part_bytes l.bytes) (option_of r.addresses))) _ v3.1 in
        let v5 = both_true (passes (all child_fits) (on_given (children_of l.children) (option_of r.child_table))) _ v4.1 in
        let v6 = both_true (passes eight_bytes (on_given (part_bytes l.bytes) (option_of r.eui64))) (all list_fits (map (list_of l.bytes) (lists_of r l))) v5.1 in
        let i = insides r (length l.bytes) (sym (same_inside r l.bytes) ∙ a1.0) in
        record {
          inside = sym (same_inside r l.bytes) ∙ a1.0;
          whole = sym (addresses_by l.bytes (option_of r.addresses) i.addresses) ∙ v4.0;
          eight = sym (eui64_by l.bytes (option_of r.eui64) i.eui64) ∙ v6.0;
          lists_lent = a5.0;
          lists_fit = sym (lists_by_lem l.bytes (lists_of r l)) ∙ true_both _ _ a5.1 v6.1;
          connectivity = v1.0;
          route = sym (route_by_lem l.route64 (option_of r.route64)) ∙ true_both _ _ a2.0 v2.0;
          tables = sym tables_is ∙ true_both _ _ a3.0 v3.0;
          children = sym children_is ∙ true_both _ _ a4.0 v5.0;
        }

    pub fits_are : fits_by r t x f h b c ls ≡ pick (agrees r l) (values_fit (values_of r l)) false
    fits_are =
        same_test (fits_by r t x f h b c ls) (pick (agrees r l) (values_fit (values_of r l)) false) (λ e. good_written (good e)) (λ e. good_back (written_good e))
