-- A record that was read is never refused 10, 12, 13 or 15 on writing: the tests of 13, 12 and 15 that are the call's own.
-- Assumes nothing.
use mathlib.Core.Path.{◌≡◌, refl, sym, ap, ◌∙◌}
use mathlib.Core.Bool.{true}
use mathlib.Core.List.{List, [], ◌∷◌, map}
use Prim.Native.Nat.{ℕ, ◌+◌, ◌-◌, ◌*◌, ◌%◌, ◌≤◌}
use native.Mathlib.Omega.{arith}
use lib.ListN.{length, replicate, length-append, length-map}
use borrow.Author.Tests.{eqb-true, eq-eqb, le-leb}
use Rattle.std.specs.Prelude.{Option, Some, None}
use Rattle.refusal.specs.Sizes.{most_bytes, most_value, most_prefixes, most_has_routes, most_border_routers}
use Rattle.refusal.specs.Every.{Every, Bytes}
use Rattle.refusal.specs.Answer.{Answer, given, absent, refused, on_given}
use Rattle.refusal.specs.Each.{all}
use Rattle.laws.proofs.Parts.{length_part}
use Rattle.diag_rules.specs.Rule.{keeps_rule, value_of}
use Rattle.network_data.specs.Decode.{Prefix, entry_of, all_routes, all_borders}
use Rattle.network_data.specs.Decode as N
use Rattle.network_data.specs.declared.Counts.{Counts}
use Rattle.route64.specs.Routes.{table, routes, laid_out}
use Rattle.route64.specs.Routes as R
use Rattle.route64.specs.declared.RouteDataEntry.{RouteDataEntry}
use Rattle.route64.specs.declared.Route64.{Route64}
use Rattle.diag_rows.specs.Rows.{part, child_rows}
use Rattle.diag_rows.specs.declared.Part.{Part}
use Rattle.diag_rows.specs.declared.ChildTableEntry.{ChildTableEntry}
use Rattle.diag_rows.specs.declared.ChildIpv6AddrInfo.{ChildIpv6AddrInfo}
use Rattle.diag_rows.proofs.Within.{child_count}
use Rattle.diag_entries.specs.Answers.{bytes_at}
use Rattle.diag.specs.Answers.{opt_network_data}
use Rattle.diag.specs.declared.NetworkDataPart.{NetworkDataPart}
use Rattle.diag_tables.specs.Tables.{prefixes_in}
use Rattle.network_writing.specs.Tables.{routes_asked, borders_asked}
use Rattle.network_writing.proofs.Round.{Small}
use Rattle.network_writing.proofs.Filled.{filled_routes, filled_borders}
use Rattle.record_writing.specs.Typed.{Given}
use Rattle.record_writing.specs.Fits.{passes}
use Rattle.record_writing.specs.Lent.{Lent, part_bytes, opt_counts, children_of}
use Rattle.record_writing.specs.Written.{short_part, short_list, counts_fit, inside, list_inside, routes_counted, tables_agree, children_agree}
use Rattle.record_writing.proofs.Kept.{good_network}
use Rattle.rehearsal.proofs.Sits.{keeps, Sits, Network, good}
use Rattle.rehearsal.proofs.Same.{Found, Laid, used, begins_most, value_read}

table_most : (rows : List RouteDataEntry) → length rows ≤ length (table rows)
unfolding table
table_most rows = omega (arith, length-append rows (replicate (64 - length rows) (R.route_row 0 0)))

module _ (s : List ℕ) where
  -- ---- parts and lists lie within the payload
  pub part_inside : (ty : ℕ) (a : Answer Part) → Given (Sits s ty) a → passes (inside s) a ≡ true
  unfolding passes
  part_inside ty (given q) w = le-leb _ _ w.inside
  part_inside ty absent w = refl
  part_inside ty (refused n p i) w = refl

  pub lists_inside : (xs : List ChildIpv6AddrInfo) → Every (Found s) xs → all (list_inside s) xs ≡ true
  unfolding all
  lists_inside [] f = refl
  lists_inside (x ∷ xs) f = rw (le-leb (x.start + x.len) (length s) f.0.inside) (lists_inside xs f.1)

  -- ---- and are no longer than it is
  module _ (small : length s ≤ most_bytes) where
    pub part_short : (ty : ℕ) (a : Answer Part) → Given (Sits s ty) a → passes short_part a ≡ true
    unfolding passes
    part_short ty (given q) w = le-leb q.len most_value (omega (arith, w.inside))
    part_short ty absent w = refl
    part_short ty (refused n p i) w = refl

    pub lists_short : (xs : List ChildIpv6AddrInfo) → Every (Found s) xs → all short_list xs ≡ true
    unfolding all
    lists_short [] f = refl
    lists_short (x ∷ xs) f = rw (le-leb (2 + x.len) most_value (omega (arith, f.0.inside))) (lists_short xs f.1)

    -- ---- Route64
    pub routers_counted : (t : Route64) (place : ℕ) (a : Answer Part) → Given (Sits s 5) a
        → Given (λ (q : Part). t ≡ laid_out (on_given R.route_of (value_of 5 place (part_bytes s q)))) a → passes (λ (q : Part). routes_counted t) a ≡ true
    unfolding passes laid_out routes
    routers_counted t place (given q) w h =
        let v = part_bytes s q in
        let read = value_read s small 5 place q refl w in
        ap routes_counted (h ∙ ap (λ (a : Answer (List ℕ)). laid_out (on_given R.route_of a)) read)
        ∙ le-leb (length (R.route_rows v)) _ (table_most (R.route_rows v))
    routers_counted t place absent w h = refl
    routers_counted t place (refused n p i) w h = refl

  -- ---- the child table
  pub children_agree_lem : (cs : List ChildTableEntry) (a : Answer Part) → Given (Sits s 16) a → Given (λ (q : Part). children_of cs q ≡ child_rows (part_bytes s q)) a
      → passes (children_agree cs) a ≡ true
  unfolding passes keeps_rule
  children_agree_lem cs (given q) w h =
      let v = part_bytes s q in
      let size = length_part s q.start q.len w.inside in
      let third = eqb-true (length v % 3) 0 (keeps 16 v refl w.plain) in
      let many = ap length h ∙ child_count v in
      eq-eqb (length (children_of cs q) * 3) q.len (omega arith)
  children_agree_lem cs absent w h = refl
  children_agree_lem cs (refused n p i) w h = refl

  -- ---- Network Data
  counts_fit_lem : (c : Counts) (ps : List Prefix) → c ≡ N.counts_of ps → Small ps → counts_fit c ≡ true
  unfolding counts_fit N.counts_of
  counts_fit_lem c ps e z =
      ap counts_fit e
      ∙ rw (le-leb (length ps) most_prefixes z.prefixes, le-leb (length (all_routes ps)) most_has_routes z.routes, le-leb (length (all_borders ps)) most_border_routers z.borders)

  tables_agree_lem : (l : Lent) (c : Counts) (ps : List Prefix) → c ≡ N.counts_of ps → Laid ps l → tables_agree l c ≡ true
  unfolding tables_agree N.counts_of
  tables_agree_lem l c ps e d =
      let u = used ps l c d e in
      let p : c.prefixes ≡ length ps = ap (λ (x : Counts). x.prefixes) e in
      let h : c.has_routes ≡ length (all_routes ps) = ap (λ (x : Counts). x.has_routes) e in
      let b : c.border_routers ≡ length (all_borders ps) = ap (λ (x : Counts). x.border_routers) e in
      rw (
        le-leb c.prefixes (length l.prefixes) (omega (arith, begins_most (map entry_of ps) l.prefixes d.prefixes, length-map ps entry_of)),
        le-leb c.has_routes (length l.routes) (omega (arith, begins_most (all_routes ps) l.routes d.routes)),
        le-leb c.border_routers (length l.borders) (omega (arith, begins_most (all_borders ps) l.borders d.borders)),
        eq-eqb _ c.has_routes (ap routes_asked u.prefixes ∙ filled_routes ps ∙ sym h),
        eq-eqb _ c.border_routers (ap borders_asked u.prefixes ∙ filled_borders ps ∙ sym b),
      )

  pub network_agrees : Bytes s → (l : Lent) (y : Option NetworkDataPart) → Network s y → Given (λ (c : Counts). Laid (prefixes_in (opt_network_data s y)) l) (opt_counts y)
      → (passes counts_fit (opt_counts y) ≡ true) × (passes (tables_agree l) (opt_counts y) ≡ true)
  unfolding passes prefixes_in
  network_agrees b l (Some x) k g =
      let ps = N.contents (bytes_at s x.start x.len) in
      (counts_fit_lem x.counts ps k.counts (good_network (bytes_at s x.start x.len) (good s 7 (part x.start x.len) b k.plain)).small, tables_agree_lem l x.counts ps k.counts g)
  network_agrees b l None k g = (refl, refl)
