-- THE law of the plan: what is decided by what one pass over each table found is what the definition says, and all that writing leans on is known.
-- Assumes nothing.
use mathlib.Core.Path.{◌≡◌, refl, sym, ap, subst, ◌∙◌}
use mathlib.Core.Bool.{Bool, true, false}
use mathlib.Core.List.{List, [], ◌∷◌}
use Prim.Native.Nat.{ℕ, ◌+◌, ◌/◌, ◌%◌, ◌≤◌, ◌<◌}
use native.Mathlib.Omega.{arith}
use lib.ListN.{length, take}
use lib.Seq.{length-take-le}
use lib.Dec.{leb, eqb}
use borrow.Author.Tests.{leb-true, leb-false, eqb-true, le-leb, le-ltb}
use Rattle.std.specs.Prelude.{Option, Some, None}
use Rattle.refusal.specs.Sizes.{most_bytes, most_entries, most_value, most_has_routes, most_border_routers}
use Rattle.refusal.specs.Answer.{pick, Answer, given, absent, refused, on_given}
use Rattle.refusal.specs.Each.{all}
use Rattle.refusal.specs.Every.{Every}
use Rattle.refusal.specs.Output.{Output, output, emit}
use Rattle.refusal.specs.Results.{answer_of, option_of}
use Rattle.laws.proofs.Tests.{by_test}
use Rattle.laws.proofs.Emits.{emit_refused, emit_no_room}
use Rattle.tables.specs.Fold.{fold}
use Rattle.tlv_writing.specs.Encode.{size_of, entry_size, encode_all, sized}
use Rattle.tlv_writing.proofs.Encodes.{size_bound}
use Rattle.tlv_writing.proofs.Several.{sized_bytes, sized_count, sized_is}
use Rattle.network_data.specs.declared.Counts.{Counts}
use Rattle.route64.specs.declared.Route64.{Route64}
use Rattle.diag_rows.specs.declared.Part.{Part}
use Rattle.diag_rows.specs.declared.ChildIpv6AddrInfo.{ChildIpv6AddrInfo}
use Rattle.diag.specs.declared.NetworkDataPart.{NetworkDataPart}
use Rattle.diag.specs.declared.NetDiagData.{NetDiagData}
use Rattle.network_writing.specs.Encode.{network_bytes}
use Rattle.network_writing.specs.Fits.{route_fits, border_fits}
use Rattle.network_writing.specs.Tables.{routes_asked, borders_asked}
use Rattle.record_writing.specs.Values.{entries_of}
use Rattle.record_writing.specs.Fits.{passes, values_fit}
use Rattle.record_writing.specs.Lent.{Lent, opt_counts, network_of, values_of}
use Rattle.record_writing.specs.Written.{short_part, short_list, parts_short, lists_of, lengths_fit, counts_fit, list_inside, routes_counted, agrees, written}
use Rattle.diag_writing.specs.Pieces.{Lies, ListLies, Counted, Short}
use Rattle.diag_writing.specs.Checks.{entry_fits, passed_prefix}
use Rattle.writing_plans.specs.Used.{counts_in, children_used, no_prefixes}
use Rattle.writing_plans.specs.Tests.{lengths_by, inside_by, tables_by, children_by, eight_by, fits_by}
use Rattle.writing_plans.specs.Sizes.{network_size, fixed_size, fixed_count, total_size}
use Rattle.writing_plans.specs.Plans.{Planning, plan_paper, stopped, sized_by, plan_by}
use Rattle.diag_writing.specs.Plans.{Scanned, Rows, Thirds, Goes, Planned}
use Rattle.writing_walks.specs.declared.Prefixes.{Prefixes}
use Rattle.writing_walks.specs.declared.Lists.{Lists}
use Rattle.writing_walks.specs.declared.Used.{Used}
use Rattle.writing_walks.specs.declared.Plan.{Plan}
use Rattle.diag_writing.proofs.Both.{contra, both_true, Near, near_same, near_back, near_over}
use Rattle.diag_writing.proofs.Folds.{least_is, prefixes_size, lists_size}
use Rattle.diag_writing.proofs.Nets.{network_size_lem}
use Rattle.diag_writing.proofs.Agreed.{few_counts, found}
use Rattle.diag_writing.proofs.Sized.{field_size, Sixty, Sound, whole_size, whole_count}
use Rattle.diag_writing.proofs.Good as g

-- ---- a refusal
module _ (r : NetDiagData) (l : Lent) (room : ℕ) (q : Plan) (k : ℕ) (is : plan_paper q ≡ stopped k)
    (says : (o : List ℕ) → length o ≡ room → output (refused k 0 0) o ≡ emit (written r l) o) where
  stop_plan : Planned r l room q
  stop_plan =
      let a = ap (λ (y : Planning). y.answer) is in
      let off = ap (λ (y : Planning). y.go) is in
      record {
        answer = λ o e. a ∙ ap (λ (y : Output). y.answer) (says o e);
        goes = λ on. contra q.go off on;
        stops = λ e.
            record {
              emits = λ o m. ap (λ (y : Answer ℕ). output y o) a ∙ says o m;
              prefixes = ap (λ (y : Planning). y.prefixes) is;
              network = ap (λ (y : Planning). y.network) is;
              children = ap (λ (y : Planning). y.children) is;
              lists = ap (λ (y : Planning). y.lists) is;
            };
      }

-- ---- Network Data
unfoldable net_size : Answer Counts → ℕ → ℕ
net_size (given c) k = size_of k
net_size absent k = 0
net_size (refused m p i) k = 0

record Net (l : Lent) (f : Prefixes) (y : Option NetworkDataPart) : Type 0 where
  pub rows : Rows (opt_counts y) (counts_in y).prefixes
  pub lent : (counts_in y).prefixes ≤ length l.prefixes
  pub routes : routes_asked (take (counts_in y).prefixes l.prefixes) ≡ (counts_in y).has_routes
  pub routes_lent : (counts_in y).has_routes ≤ length l.routes
  pub routes_few : (counts_in y).has_routes ≤ most_has_routes
  pub borders : borders_asked (take (counts_in y).prefixes l.prefixes) ≡ (counts_in y).border_routers
  pub borders_lent : (counts_in y).border_routers ≤ length l.borders
  pub borders_few : (counts_in y).border_routers ≤ most_border_routers
  pub fit : all entry_fits (take (counts_in y).prefixes l.prefixes) ≡ true
  pub near : Near f.size (prefixes_size (take (counts_in y).prefixes l.prefixes))
  pub field : field_size (on_given network_bytes (on_given (network_of l) (opt_counts y))) ≡ net_size (opt_counts y) (prefixes_size (take (counts_in y).prefixes l.prefixes))
  pub bound : prefixes_size (take (counts_in y).prefixes l.prefixes) ≤ net_size (opt_counts y) (prefixes_size (take (counts_in y).prefixes l.prefixes))

module _ (l : Lent) (x : Used) (f : Prefixes) (h b : Bool) (ps : x.prefixes_lent ≡ length l.prefixes)
    (hs : x.routes_lent ≡ length l.routes) (bs : x.borders_lent ≡ length l.borders) where
  net : (y : Option NetworkDataPart) → f ≡ fold passed_prefix no_prefixes (take (counts_in y).prefixes l.prefixes) → h ≡ all route_fits (take (counts_in y).has_routes l.routes)
      → b ≡ all border_fits (take (counts_in y).border_routers l.borders) → passes counts_fit (opt_counts y) ≡ true → passes (tables_by x f h b) (opt_counts y) ≡ true → Net l f y
  unfolding passes counts_in net_size field_size fold routes_asked borders_asked prefixes_size all
  net (Some z) fis his bis small ok =
      let c = z.counts in
      let t = found l x f h b c ps hs bs small fis his bis ok in
      let k = few_counts c small in
      let used = take c.prefixes l.prefixes in
      let rs = take c.has_routes l.routes in
      let ts = take c.border_routers l.borders in
      let lr = length-take-le c.has_routes l.routes t.routes_lent in
      let lb = length-take-le c.border_routers l.borders t.borders_lent in
      record {
        rows = refl;
        lent = t.prefixes_lent;
        routes = t.routes;
        routes_lent = t.routes_lent;
        routes_few = k.routes;
        borders = t.borders;
        borders_lent = t.borders_lent;
        borders_few = k.borders;
        fit = t.fit;
        near = t.size;
        field = ap size_of (network_size_lem used rs ts t.fit (omega (arith, t.routes)) (omega (arith, t.borders)));
        bound = let w = size_bound (prefixes_size used) in omega arith;
      }
  net None fis his bis small ok =
      record {
        rows = refl;
        lent = omega arith;
        routes = refl;
        routes_lent = omega arith;
        routes_few = omega arith;
        borders = refl;
        borders_lent = omega arith;
        borders_few = omega arith;
        fit = refl;
        near = near_same f.size 0 (ap (λ (y : Prefixes). y.size) fis);
        field = refl;
        bound = omega arith;
      }

-- ---- parts
lies : (s : List ℕ) (a : Answer Part) → passes (inside_by (length s)) a ≡ true → passes short_part a ≡ true → Lies s a
unfolding passes
lies s (given q) h k = (leb-true (q.start + q.len) (length s) h, leb-true q.len most_value k)
lies s absent h k = tt
lies s (refused m p i) h k = tt

short_part_lem : (a : Answer Part) → passes short_part a ≡ true → Short a
unfolding passes
short_part_lem (given q) k = leb-true q.len most_value k
short_part_lem absent k = tt
short_part_lem (refused m p i) k = tt

eight_short : (a : Answer Part) → passes eight_by a ≡ true → passes short_part a ≡ true
unfolding passes
eight_short (given q) h = le-leb q.len most_value (let e = eqb-true q.len 8 h in omega arith)
eight_short absent h = refl
eight_short (refused m p i) h = refl

counted : (t : Route64) (a : Answer Part) → Sixty t → passes (λ (q : Part). routes_counted t) a ≡ true → Counted a t
unfolding passes
counted t (given q) w h = let e = leb-true t.count (length t.route_data) h in omega (arith, w.1)
counted t absent w h = tt
counted t (refused m p i) w h = tt

thirds : (x : Used) (c : Bool) (a : Answer Part) (k lent : ℕ) → x.children_lent ≡ lent → passes (children_by x c) a ≡ true → k ≡ children_used a lent → Thirds a k × (k ≤ lent)
unfolding passes children_by children_used
thirds x c (given q) k lent e h u =
    let p = both_true (eqb (q.len % 3) 0) _ h in
    let d = both_true (leb (q.len / 3) x.children_lent) c p.1 in
    let m = eqb-true (q.len % 3) 0 p.0 in
    let o = leb-true (q.len / 3) x.children_lent d.0 in
    let v = least_is (q.len / 3) lent (omega arith) in
    ((omega arith, omega arith), omega arith)
thirds x c absent k lent e h u = (u, omega arith)
thirds x c (refused m p i) k lent e h u = (u, omega arith)

lists_lie : (s : List ℕ) (xs : List ChildIpv6AddrInfo) → all short_list xs ≡ true → all (list_inside s) xs ≡ true → Every (ListLies s) xs
unfolding all
lists_lie s [] h k = tt
lists_lie s (y ∷ xs) h k =
    let a = both_true (short_list y) (all short_list xs) h in
    let d = both_true (list_inside s y) (all (list_inside s) xs) k in
    ((leb-true (y.start + y.len) (length s) d.0, leb-true (2 + y.len) most_value a.0), lists_lie s xs a.1 d.1)

-- ---- the sum
entry_is : (k m : ℕ) → k ≡ m → k ≤ most_bytes → entry_size k ≡ size_of m
unfolding entry_size
entry_is k m e h = rw (le-leb k most_value (omega arith)) (ap size_of e)

net_same : (a : Answer Counts) (k m : ℕ) → k ≡ m → k ≤ most_bytes → network_size a k ≡ net_size a m
unfolding network_size net_size
net_same (given c) k m e h = entry_is k m e h
net_same absent k m e h = refl
net_same (refused j p i) k m e h = refl

total_near : (r : NetDiagData) (t : Route64) (f : Prefixes) (ls : Lists) (m k : ℕ) → Near f.size m → m ≤ net_size (opt_counts r.network_data) m → Near ls.size k
    → Near (total_size r t f ls) (fixed_size r t + (net_size (opt_counts r.network_data) m + k))
unfolding total_size
total_near r t f ls m k a bound d =
    by_test (leb f.size most_bytes)
    (λ y. by_test (leb ls.size most_bytes)
    (λ z.
    let p = leb-true f.size most_bytes y in
    let e = near_back f.size m a p in
    let w = near_back ls.size k d (leb-true ls.size most_bytes z) in
    let u = net_same (opt_counts r.network_data) f.size m e p in
    rw (y, z) (near_same _ _ (omega arith)))
    (λ z.
    let p = leb-false ls.size most_bytes z in
    let w = near_over ls.size k d p in
    rw (y, z) (record { small = λ o. absurd (omega arith); large = λ o. p })))
    (λ y.
    let p = leb-false f.size most_bytes y in
    let w = near_over f.size m a p in
    rw y (record { small = λ o. absurd (omega arith); large = λ o. p }))

-- ---- the plan
module _ (r : NetDiagData) (l : Lent) (t : Route64) (x : Used) (f : Prefixes) (h b c : Bool) (ls : Lists) (s : Scanned r l t x f h b c ls) (sixty : Sixty t) (q : Plan)
    (is : plan_paper q ≡ plan_by r t x f h b c ls) where
  refusing : (k : ℕ) → plan_paper q ≡ stopped k → refused k 0 0 ≡ written r l → Planned r l x.room q
  refusing k e w = stop_plan r l x.room q k e (λ o m. emit_refused (written r l) o k 0 0 w)

  fifteen : lengths_fit r l ≡ true → passes counts_fit (opt_counts r.network_data) ≡ true → pick (agrees r l) (values_fit (values_of r l)) false ≡ false → refused 15 0 0 ≡ written r l
  unfolding written
  fifteen a d k =
      by_test (agrees r l)
      (λ y. by_test (values_fit (values_of r l)) (λ z. contra _ k (rw (y, z))) (λ z. rw (a, d, y, z)))
      (λ y. rw (a, d, y))

  module _ (long : lengths_by r ls ≡ true) (small : passes counts_fit (opt_counts r.network_data) ≡ true) (fit : fits_by r t x f h b c ls ≡ true) where
    passed : written r l ≡ sized (entries_of (values_of r l))
    unfolding written
    passed =
        let d = both_true (agrees r l) (values_fit (values_of r l)) (sym (g.fits_are r l t x f h b c ls s small) ∙ fit) in
        rw (sym (g.lengths_are r l t x f h b c ls s) ∙ long, small, d.0, d.1)

    good : g.Good r l t x f h b c ls s
    good = g.good r l t x f h b c ls s fit

    asked : g.Asked r l t x f h b c ls s small
    asked = g.asked r l t x f h b c ls s small good

    short_lists : all short_list (lists_of r l) ≡ true
    unfolding lengths_by
    short_lists = sym (g.listed r l t x f h b c ls s).short ∙ (both_true (parts_short r) ls.short long).1

    shorts : g.Shorts r
    unfolding lengths_by
    shorts = g.shorts r (both_true (parts_short r) ls.short long).0

    lie : Every (ListLies l.bytes) (lists_of r l)
    lie = lists_lie l.bytes (lists_of r l) short_lists asked.lists_inside

    sound : Sound r l
    sound =
        let i = g.insides r (length l.bytes) good.inside in
        record {
          ext_mac_addr = i.ext_mac_addr;
          addresses = i.addresses;
          channel_pages = i.channel_pages;
          type_list = i.type_list;
          eui64 = i.eui64;
          ext_mac_addr_short = shorts.ext_mac_addr;
          addresses_short = shorts.addresses;
          child_table_short = shorts.child_table;
          channel_pages_short = shorts.channel_pages;
          type_list_short = shorts.type_list;
          eui64_short = eight_short (option_of r.eui64) good.eight;
          counted = asked.counted;
          children = asked.children_are;
          lists = lie;
        }

    network : Net l f r.network_data
    network =
        net l x f h b (g.prefixes_lent r l t x f h b c ls s) (g.routes_lent r l t x f h b c ls s) (g.borders_lent r l t x f h b c ls s) r.network_data
        (g.prefixes_are r l t x f h b c ls s) (g.routes_are r l t x f h b c ls s) (g.borders_are r l t x f h b c ls s) small good.tables

    sixty_lent : Sixty l.route64
    sixty_lent = subst Sixty s.route64 sixty

    abbrev bytes : List ℕ
    bytes = encode_all (entries_of (values_of r l))

    size_is : length bytes ≡ fixed_size r t + (net_size (opt_counts r.network_data) (prefixes_size (take (counts_in r.network_data).prefixes l.prefixes)) + lists_size (lists_of r l))
    size_is = whole_size r l sound sixty_lent ∙ rw (network.field, s.route64)

    near : Near (total_size r t f ls) (length bytes)
    near =
        subst (Near (total_size r t f ls)) (sym size_is)
        (total_near r t f ls (prefixes_size (take (counts_in r.network_data).prefixes l.prefixes)) (lists_size (lists_of r l)) network.near network.bound (g.listed r l t x f h b c ls s).size)

    lists_count : x.lists ≡ r.child_ipv6_addresses
    lists_count = g.lists_used r l t x f h b c ls s ∙ least_is r.child_ipv6_addresses (length l.lists) (leb-true r.child_ipv6_addresses (length l.lists) good.lists_lent)

    count : length (entries_of (values_of r l)) ≡ fixed_count r + x.lists
    count =
        let k = leb-true r.child_ipv6_addresses (length l.lists) good.lists_lent in
        let m = length-take-le r.child_ipv6_addresses l.lists k in
        omega (arith, whole_count r l, lists_count)

    prefixes_count : x.prefixes ≡ (counts_in r.network_data).prefixes
    prefixes_count = g.prefixes_used r l t x f h b c ls s ∙ least_is (counts_in r.network_data).prefixes (length l.prefixes) network.lent

    module _ (fits : total_size r t f ls ≤ most_bytes) (few : fixed_count r + x.lists ≤ most_entries) where
      total : total_size r t f ls ≡ length bytes
      total = near_back (total_size r t f ls) (length bytes) near fits

      gives : written r l ≡ given bytes
      gives = passed ∙ sized_is (entries_of (values_of r l)) (omega (arith, total)) (omega (arith, count))

      no_room : plan_paper q ≡ stopped 11 → x.room < total_size r t f ls → Planned r l x.room q
      no_room e k = stop_plan r l x.room q 11 e (λ o m. emit_no_room (written r l) o bytes gives (omega (arith, total)))

      abbrev going : Planning
      going = record { answer = given (total_size r t f ls); go = true; prefixes = x.prefixes; network = f.size; children = x.children; lists = x.lists }

      module _ (e : plan_paper q ≡ going) (room : total_size r t f ls ≤ x.room) where
        answers : answer_of q.answer ≡ given (length bytes)
        answers = ap (λ (y : Planning). y.answer) e ∙ ap given total

        goes : Goes r l x.room q
        goes =
            let i = g.insides r (length l.bytes) good.inside in
            let pn = ap (λ (y : Planning). y.prefixes) e ∙ prefixes_count in
            let nn = ap (λ (y : Planning). y.network) e in
            let cn = ap (λ (y : Planning). y.children) e in
            let ln = ap (λ (y : Planning). y.lists) e ∙ lists_count in
            let th = thirds x c (option_of r.child_table) q.children (length l.children) (g.children_lent r l t x f h b c ls s) good.children (cn ∙ g.children_used_lem r l t x f h b c ls s) in
            let used = take (counts_in r.network_data).prefixes l.prefixes in
            let short : prefixes_size used ≤ most_bytes = omega (arith, total, size_is, network.bound) in
            let size = network.near.small short in
            let ns = network_size_lem used l.routes l.borders network.fit (omega (arith, network.routes, network.routes_lent)) (omega (arith, network.borders, network.borders_lent)) in
            record {
              bytes = gives;
              fits = omega (arith, total);
              answer = answers;
              placeable = record {
                ext_mac_addr = lies l.bytes (option_of r.ext_mac_addr) i.ext_mac_addr shorts.ext_mac_addr;
                addresses = lies l.bytes (option_of r.addresses) i.addresses shorts.addresses;
                channel_pages = lies l.bytes (option_of r.channel_pages) i.channel_pages shorts.channel_pages;
                type_list = lies l.bytes (option_of r.type_list) i.type_list shorts.type_list;
                eui64 = lies l.bytes (option_of r.eui64) i.eui64 (eight_short (option_of r.eui64) good.eight);
                children = short_part_lem (option_of r.child_table) shorts.child_table;
              };
              counted = counted l.route64 (option_of r.route64) sixty_lent asked.counted;
              prefixes = rw pn network.rows;
              prefixes_lent = rw pn network.lent;
              routes_are = rw pn network.routes;
              routes_lent = network.routes_lent;
              routes_few = network.routes_few;
              borders_are = rw pn network.borders;
              borders_lent = network.borders_lent;
              borders_few = network.borders_few;
              network = rw pn (nn ∙ size ∙ sym ns);
              network_short = omega arith;
              children = th.0;
              children_lent = th.1;
              lists = ln;
              lists_lent = rw ln (leb-true r.child_ipv6_addresses (length l.lists) good.lists_lent);
              lists_lie = rw ln lie;
            }

        go_plan : Planned r l x.room q
        unfolding emit
        go_plan = record {
          answer = λ o m. answers ∙ rw (gives, le-ltb (length o) (length bytes) (omega (arith, total)));
          goes = λ y. goes;
          stops = λ y. contra q.go y (ap (λ (z : Planning). z.go) e);
        }

    sized_plan : plan_paper q ≡ sized_by r t x f ls → Planned r l x.room q
    unfolding sized_by
    sized_plan e =
        by_test (leb (total_size r t f ls) most_bytes)
        (λ y. by_test (leb (fixed_count r + x.lists) most_entries)
        (λ z.
        let fits = leb-true (total_size r t f ls) most_bytes y in
        let few = leb-true (fixed_count r + x.lists) most_entries z in
        by_test (leb (total_size r t f ls) x.room)
        (λ w. go_plan fits few (e ∙ rw (y, z, w)) (leb-true (total_size r t f ls) x.room w))
        (λ w. no_room fits few (e ∙ rw (y, z, w)) (leb-false (total_size r t f ls) x.room w)))
        (λ z.
        let k = near_back (total_size r t f ls) (length bytes) near (leb-true (total_size r t f ls) most_bytes y) in
        let p = leb-true (total_size r t f ls) most_bytes y in
        let m = leb-false (fixed_count r + x.lists) most_entries z in
        refusing 10 (e ∙ rw (y, z)) (sized_count (entries_of (values_of r l)) (omega arith) (omega (arith, count)) ∙ sym passed)))
        (λ y. refusing 10 (e ∙ rw y) (sized_bytes (entries_of (values_of r l)) (near_over (total_size r t f ls) (length bytes) near (leb-false (total_size r t f ls) most_bytes y)) ∙ sym passed))

  pub planned : Planned r l x.room q
  unfolding plan_by written
  planned =
      let le = g.lengths_are r l t x f h b c ls s in
      by_test (lengths_by r ls)
      (λ a. by_test (passes counts_fit (opt_counts r.network_data))
      (λ d. by_test (fits_by r t x f h b c ls)
      (λ k. sized_plan a d k (is ∙ rw (a, d, k)))
      (λ k. refusing 15 (is ∙ rw (a, d, k)) (fifteen (sym le ∙ a) d (sym (g.fits_are r l t x f h b c ls s d) ∙ k))))
      (λ d. refusing 12 (is ∙ rw (a, d)) (rw (sym le ∙ a, d))))
      (λ a. refusing 13 (is ∙ rw a) (rw (sym le ∙ a)))
