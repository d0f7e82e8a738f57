-- What one pass over each lent table finds.
-- Assumes nothing.
use mathlib.Core.Path.{◌≡◌, refl, sym, ap, subst, ◌∙◌}
use mathlib.Core.Bool.{true, false}
use mathlib.Core.List.{List, [], ◌∷◌}
use Prim.Native.Nat.{ℕ, ◌+◌, ◌/◌, ◌≤◌}
use native.Mathlib.Omega.{arith}
use lib.ListN.{length, take}
use lib.Seq.{take_all}
use lib.Dec.{leb}
use borrow.Author.Tests.{leb-true, leb-false, le-leb}
use Rattle.refusal.specs.Sizes.{most_has_routes, most_border_routers}
use Rattle.refusal.specs.Answer.{pick, Answer, given, absent, refused}
use Rattle.refusal.specs.Each.{all}
use Rattle.refusal.specs.Results.{option_of}
use Rattle.laws.proofs.Tests.{by_test}
use Rattle.tables.specs.Fold.{fold}
use Rattle.tlv_writing.specs.Encode.{entry_size}
use Rattle.network_data.specs.declared.PrefixEntry.{PrefixEntry}
use Rattle.diag_rows.specs.declared.Part.{Part}
use Rattle.diag_rows.specs.declared.ChildIpv6AddrInfo.{ChildIpv6AddrInfo}
use Rattle.diag.specs.declared.NetDiagData.{NetDiagData}
use Rattle.network_writing.specs.Tables.{routes_asked, borders_asked}
use Rattle.record_writing.specs.Written.{short_list}
use Rattle.diag_writing.specs.Pieces.{value_size}
use Rattle.diag_writing.specs.Checks.{grown, entry_fits, passed_prefix, list_fits_in, passed_list}
use Rattle.writing_plans.specs.Used.{least, counts_in, children_used, used_of}
use Rattle.writing_walks.specs.declared.Prefixes.{Prefixes}
use Rattle.writing_walks.specs.declared.Lists.{Lists}
use Rattle.writing_walks.specs.declared.Used.{Used}
use Rattle.writing_plans.proofs.Picks.{pick_self}
use Rattle.diag_writing.proofs.Both.{contra, both_true, true_both, pick_more, Near, near_grown}

-- the rows that are used are the first that are counted
pub take_least : {A : Type 0} (n : ℕ) (xs : List A) → take (least n (length xs)) xs ≡ take n xs
unfolding least
take_least n xs =
    by_test (leb n (length xs)) (λ t. rw t)
    (λ t. let h = leb-false n (length xs) t in rw t (take_all (length xs) xs (omega arith) ∙ sym (take_all n xs (omega arith))))

pub least_is : (n k : ℕ) → n ≤ k → least n k ≡ n
unfolding least
least_is n k h = rw (le-leb n k h)

least_within : (n k : ℕ) → least n k ≤ k
unfolding least
least_within n k = by_test (leb n k) (λ t. rw t (leb-true n k t)) (λ t. rw t (omega arith))

children_within : (a : Answer Part) (k : ℕ) → children_used a k ≤ k
unfolding children_used
children_within (given q) k = least_within (q.len / 3) k
children_within absent k = omega arith
children_within (refused m p i) k = omega arith

-- the rows that are used are lent
pub record Within (x : Used) (prefixes routes borders children lists : ℕ) : Type 0 where
  pub prefixes_in : x.prefixes ≤ prefixes
  pub routes_in : x.routes ≤ routes
  pub borders_in : x.borders ≤ borders
  pub children_in : x.children ≤ children
  pub lists_in : x.lists ≤ lists

pub used_within : (r : NetDiagData) (s ps hs bs cs ls room : ℕ) → Within (used_of r s ps hs bs cs ls room) ps hs bs cs ls
unfolding used_of
used_within r s ps hs bs cs ls room = record {
  prefixes_in = least_within (counts_in r.network_data).prefixes ps;
  routes_in = least_within (counts_in r.network_data).has_routes hs;
  borders_in = least_within (counts_in r.network_data).border_routers bs;
  children_in = children_within (option_of r.child_table) cs;
  lists_in = least_within r.child_ipv6_addresses ls;
}

-- ---- prefixes

-- how many bytes their TLVs take
unfoldable pub prefixes_size : List PrefixEntry → ℕ
prefixes_size [] = 0
prefixes_size (e ∷ es) = 2 + value_size e + prefixes_size es

abbrev next : Prefixes → PrefixEntry → Prefixes
next f e = record { routes = f.routes + e.has_routes; borders = f.borders + e.border_routers; size = grown f.size (2 + value_size e); fits = true }

record Stepped (f : Prefixes) (e : PrefixEntry) : Type 0 where
  pub was : f.fits ≡ true
  pub fits : entry_fits e ≡ true
  pub is : passed_prefix f e ≡ next f e

stepped : (f : Prefixes) (e : PrefixEntry) → (passed_prefix f e).fits ≡ true → Stepped f e
unfolding passed_prefix
stepped f e h =
    by_test f.fits
    (λ a. by_test (leb f.routes most_has_routes)
    (λ b. by_test (leb f.borders most_border_routers)
    (λ c. by_test (entry_fits e)
    (λ d. record { was = a; fits = d; is = rw (a, b, c, d) })
    (λ d. contra false refl (rw (a, b, c, d) at h))) (λ c. contra false refl (rw (a, b, c) at h))) (λ b. contra false refl (rw (a, b) at h)))
    (λ a. contra false refl (rw a at h))

pub record Summed (f x : Prefixes) (es : List PrefixEntry) : Type 0 where
  pub was : f.fits ≡ true
  pub routes : x.routes ≡ f.routes + routes_asked es
  pub borders : x.borders ≡ f.borders + borders_asked es
  pub size : (t : ℕ) → Near f.size t → Near x.size (t + prefixes_size es)
  pub fit : all entry_fits es ≡ true

pub summed : (f : Prefixes) (es : List PrefixEntry) → (fold passed_prefix f es).fits ≡ true → Summed f (fold passed_prefix f es) es
unfolding fold all routes_asked borders_asked prefixes_size
summed f [] h = record {
  was = h;
  routes = omega arith;
  borders = omega arith;
  size = λ t n. let z : t ≡ t + 0 = omega arith in subst (λ (k : ℕ). Near f.size k) z n;
  fit = refl;
}
summed f (e ∷ es) h =
    let s = summed (passed_prefix f e) es h in
    let g = stepped f e s.was in
    let is = g.is in
    let r = ap (λ (x : Prefixes). x.routes) is in
    let b = ap (λ (x : Prefixes). x.borders) is in
    let z = ap (λ (x : Prefixes). x.size) is in
    record {
      was = g.was;
      routes = omega (arith, s.routes);
      borders = omega (arith, s.borders);
      size = λ t n.
          let w : t + (2 + value_size e) + prefixes_size es ≡ t + (2 + value_size e + prefixes_size es) = omega arith in
          subst (λ (k : ℕ). Near (fold passed_prefix (passed_prefix f e) es).size k) w
          (s.size (t + (2 + value_size e)) (subst (λ (k : ℕ). Near k (t + (2 + value_size e))) (sym z) (near_grown f.size t (2 + value_size e) n)));
      fit = true_both (entry_fits e) (all entry_fits es) g.fits s.fit;
    }

passing : (f : Prefixes) (e : PrefixEntry) → f.fits ≡ true → f.routes ≤ most_has_routes → f.borders ≤ most_border_routers → entry_fits e ≡ true
    → passed_prefix f e ≡ next f e
unfolding passed_prefix
passing f e w r b h = rw (w, le-leb f.routes most_has_routes r, le-leb f.borders most_border_routers b, h)

pub all_pass : (f : Prefixes) (es : List PrefixEntry) → f.fits ≡ true → f.routes + routes_asked es ≤ most_has_routes → f.borders + borders_asked es ≤ most_border_routers
    → all entry_fits es ≡ true → (fold passed_prefix f es).fits ≡ true
unfolding fold all routes_asked borders_asked
all_pass f [] w r b h = w
all_pass f (e ∷ es) w r b h =
    let p = both_true (entry_fits e) (all entry_fits es) h in
    ap (λ (g : Prefixes). (fold passed_prefix g es).fits) (passing f e w (omega arith) (omega arith) p.0)
    ∙ all_pass (next f e) es refl (omega arith) (omega arith) p.1

-- ---- address lists

-- how many bytes their entries take
unfoldable pub lists_size : List ChildIpv6AddrInfo → ℕ
lists_size [] = 0
lists_size (x ∷ xs) = entry_size (2 + x.len) + lists_size xs

pub record Listing (f x : Lists) (xs : List ChildIpv6AddrInfo) : Type 0 where
  pub short : x.short ≡ pick f.short (all short_list xs) false
  pub fits : x.fits ≡ pick f.fits (all (list_fits_in f.bytes) xs) false
  pub size : (t : ℕ) → Near f.size t → Near x.size (t + lists_size xs)

pub listing : (f : Lists) (xs : List ChildIpv6AddrInfo) → Listing f (fold passed_list f xs) xs
unfolding fold all passed_list lists_size
listing f [] = record {
  short = pick_self f.short;
  fits = pick_self f.fits;
  size = λ t n. let z : t ≡ t + 0 = omega arith in subst (λ (k : ℕ). Near f.size k) z n;
}
listing f (x ∷ xs) =
    let s = listing (passed_list f x) xs in
    record {
      short = s.short ∙ pick_more f.short (short_list x) (all short_list xs);
      fits = s.fits ∙ pick_more f.fits (list_fits_in f.bytes x) (all (list_fits_in f.bytes) xs);
      size = λ t n.
          let w : t + entry_size (2 + x.len) + lists_size xs ≡ t + (entry_size (2 + x.len) + lists_size xs) = omega arith in
          subst (λ (k : ℕ). Near (fold passed_list (passed_list f x) xs).size k) w
          (s.size (t + entry_size (2 + x.len)) (near_grown f.size t (entry_size (2 + x.len)) n));
    }
