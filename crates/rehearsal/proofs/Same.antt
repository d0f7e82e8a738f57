-- What was read, field by field: a record and tables that the calls handed out say what the payload says.
-- Assumes nothing.
use mathlib.Core.Path.{◌≡◌, refl, sym, ap, ◌∙◌, subst}
use mathlib.Core.Bool.{false}
use mathlib.Core.List.{List, [], ◌∷◌, ◌++◌, map}
use Prim.Native.Nat.{ℕ, suc, ◌+◌, ◌-◌, ◌/◌, ◌%◌, ◌≤◌, ◌<◌}
use native.Mathlib.Omega.{arith}
use lib.ListN.{length, take, drop, length-append, length-map}
use lib.Seq.{take-append_seam}
use lib.Dec.{eqb, leb}
use borrow.Author.Tests.{eqb-true, leb-true, le-ltb}
use Rattle.std.specs.Prelude.{Option, Some, None}
use Rattle.refusal.specs.Sizes.{most_bytes}
use Rattle.refusal.specs.Every.{Every, Bytes}
use Rattle.refusal.specs.Answer.{Answer, given, absent, refused, then_do, on_given}
use Rattle.refusal.specs.Numbered.{nth}
use Rattle.laws.proofs.Bits.{both}
use Rattle.laws.proofs.Parts.{length_part}
use Rattle.tlv.specs.Entries.{Entry}
use Rattle.diag_rules.specs.Rule.{keeps_rule, value_of}
use Rattle.diag_rules.proofs.Kept.{value_kept}
use Rattle.network_data.specs.Decode.{Prefix, entry_of, all_routes, all_borders}
use Rattle.network_data.specs.Decode as N
use Rattle.network_data.specs.declared.Counts.{Counts}
use Rattle.network_data.specs.declared.PrefixEntry.{PrefixEntry}
use Rattle.network_data.specs.declared.HasRouteEntry.{HasRouteEntry}
use Rattle.network_data.specs.declared.BorderRouterEntry.{BorderRouterEntry}
use Rattle.connectivity.specs.Connectivity.{ConnectivityValue}
use Rattle.route64.specs.Routes.{Route, table, routes, laid_out}
use Rattle.route64.specs.Routes as R
use Rattle.diag_values.specs.declared.ModeData.{ModeData}
use Rattle.diag_values.specs.declared.LeaderData.{LeaderData}
use Rattle.diag_values.specs.declared.MacCounters.{MacCounters}
use Rattle.diag_rows.specs.Rows.{part, child_rows, addresses}
use Rattle.diag_rows.specs.declared.Part.{Part}
use Rattle.diag_rows.specs.declared.ChildTableEntry.{ChildTableEntry}
use Rattle.diag_rows.specs.declared.ChildIpv6AddrInfo.{ChildIpv6AddrInfo}
use Rattle.diag_rows.proofs.Within.{child_count}
use Rattle.diag_entries.specs.Answers.{bytes_at, said_at}
use Rattle.diag_entries.specs.Lists.{AddressList, address_list}
use Rattle.diag.specs.Diag.{NetworkDataValue, Diag}
use Rattle.diag.specs.declared.NetworkDataPart.{NetworkDataPart}
use Rattle.diag.specs.Answers.{opt_network_data}
use Rattle.diag_tables.specs.Tables.{outcome, prefixes_in}
use Rattle.diag_tables.specs.Tables as T
use Rattle.network_writing.proofs.Filled.{filled_back}
use Rattle.value_writing.specs.Encode.{ListValue}
use Rattle.value_writing.proofs.Again.{addresses_back}
use Rattle.record_writing.specs.Values.{Values}
use Rattle.record_writing.specs.Typed.{Given}
use Rattle.record_writing.specs.Reading.{saying, unplaced}
use Rattle.record_writing.specs.Again.{flat, list_value}
use Rattle.record_writing.specs.Lent.{Lent, part_bytes, route_used, opt_counts, network_of, children_of, list_of}
use Rattle.record_writing.proofs.Kept.{good_network}
use Rattle.rehearsal.specs.Read.{child_row}
use Rattle.rehearsal.proofs.Sits.{keeps, Sits, Network, Kept, good}

-- ---- what is said, field by field
abbrev values : (a0 : Answer (List ℕ)) → (a1 : Answer ℕ) → (a2 : Answer ModeData) → (a3 : Answer ℕ) → (a4 : Answer ConnectivityValue) → (a5 : Answer Route) → (a6 : Answer LeaderData) → (a7 : Answer (List Prefix)) → (a8 : Answer (List ℕ)) → (a9 : Answer MacCounters) → (a10 : Answer ℕ) → (a11 : Answer ℕ) → (a12 : Answer (List ChildTableEntry)) → (a13 : Answer (List ℕ)) → (a14 : Answer (List ℕ)) → (a15 : Answer (List ℕ)) → (a16 : List ListValue) → Values
values a0 a1 a2 a3 a4 a5 a6 a7 a8 a9 a10 a11 a12 a13 a14 a15 a16 = record {
  ext_mac_addr = a0;
  mac_addr = a1;
  mode = a2;
  timeout = a3;
  connectivity = a4;
  route64 = a5;
  leader_data = a6;
  network_data = a7;
  addresses = a8;
  mac_counters = a9;
  battery_level = a10;
  supply_voltage = a11;
  child_table = a12;
  channel_pages = a13;
  type_list = a14;
  eui64 = a15;
  child_lists = a16;
}

pub by_values : {a0 b0 : Answer (List ℕ)} {a1 b1 : Answer ℕ} {a2 b2 : Answer ModeData} {a3 b3 : Answer ℕ} {a4 b4 : Answer ConnectivityValue} {a5 b5 : Answer Route} {a6 b6 : Answer LeaderData} {a7 b7 : Answer (List Prefix)} {a8 b8 : Answer (List ℕ)} {a9 b9 : Answer MacCounters} {a10 b10 : Answer ℕ} {a11 b11 : Answer ℕ} {a12 b12 : Answer (List ChildTableEntry)} {a13 b13 : Answer (List ℕ)} {a14 b14 : Answer (List ℕ)} {a15 b15 : Answer (List ℕ)} {a16 b16 : List ListValue}
    → a0 ≡ b0 → a1 ≡ b1 → a2 ≡ b2 → a3 ≡ b3 → a4 ≡ b4 → a5 ≡ b5 → a6 ≡ b6 → a7 ≡ b7 → a8 ≡ b8 → a9 ≡ b9 → a10 ≡ b10 → a11 ≡ b11 → a12 ≡ b12 → a13 ≡ b13 → a14 ≡ b14 → a15 ≡ b15 → a16 ≡ b16
    → values a0 a1 a2 a3 a4 a5 a6 a7 a8 a9 a10 a11 a12 a13 a14 a15 a16 ≡ values b0 b1 b2 b3 b4 b5 b6 b7 b8 b9 b10 b11 b12 b13 b14 b15 b16
by_values e0 e1 e2 e3 e4 e5 e6 e7 e8 e9 e10 e11 e12 e13 e14 e15 e16 = cc

-- ---- rows one by one
pub rows_first : {A : Type 0} (ys xs : List A) → ((k : ℕ) → k < length ys → nth xs k ≡ nth ys k) → take (length ys) xs ≡ ys
unfolding nth
rows_first [] xs h = refl
rows_first (y ∷ ys) [] h = absurd (let e = h 0 (omega arith) in let z : ◌≡◌ {A = ℕ} 0 1 = cc in omega arith)
rows_first (y ∷ ys) (x ∷ xs) h =
    let e = h 0 (omega arith) in
    let same : x ≡ y = cc in
    ap (λ (l : List _). x ∷ l) (rows_first ys xs (λ k l. h (suc k) (omega (arith, l)))) ∙ ap (λ (z : _). z ∷ ys) same

pub handed_first : {A B : Type 0} (f : A → B) (ys : List B) (xs : List A) → ((k : ℕ) → k < length ys → then_do (nth xs k) (λ (x : A). given (f x)) ≡ nth ys k)
    → map f (take (length ys) xs) ≡ ys
unfolding nth
handed_first f [] xs h = refl
handed_first f (y ∷ ys) [] h = absurd (let e = h 0 (omega arith) in let z : ◌≡◌ {A = ℕ} 0 1 = cc in omega arith)
handed_first f (y ∷ ys) (x ∷ xs) h =
    let e = h 0 (omega arith) in
    let same : f x ≡ y = cc in
    ap (λ (l : List _). f x ∷ l) (handed_first f ys xs (λ k l. h (suc k) (omega (arith, l)))) ∙ ap (λ (z : _). z ∷ ys) same

pub handed_most : {A B : Type 0} (f : A → B) (ys : List B) (xs : List A) → ((k : ℕ) → k < length ys → then_do (nth xs k) (λ (x : A). given (f x)) ≡ nth ys k)
    → length ys ≤ length xs
unfolding nth
handed_most f [] xs h = omega arith
handed_most f (y ∷ ys) [] h = absurd (let e = h 0 (omega arith) in let z : ◌≡◌ {A = ℕ} 0 1 = cc in omega arith)
handed_most f (y ∷ ys) (x ∷ xs) h = omega (arith, handed_most f ys xs (λ k l. h (suc k) (omega (arith, l))))

pub given_map : {A : Type 0} (P Q : A → Type 0) → ((x : A) → P x → Q x) → (a : Answer A) → Given P a → Given Q a
given_map P Q f (given x) g = f x g
given_map P Q f absent g = tt
given_map P Q f (refused n p i) g = tt

pub given_two : {A : Type 0} (P Q S : A → Type 0) → ((x : A) → P x → Q x → S x) → (a : Answer A) → Given P a → Given Q a → Given S a
given_two P Q S f (given x) g h = f x g h
given_two P Q S f absent g h = tt
given_two P Q S f (refused n p i) g h = tt

-- ---- the tables that `diag_tables::decode` filled

-- a table that begins with new records
pub record Begins {A : Type 0} (new x : List A) : Type 0 where
  pub rest : List A
  pub are : x ≡ new ++ rest

pub begins_take : {A : Type 0} (new x : List A) → Begins new x → take (length new) x ≡ new
begins_take new x b = ap (take (length new)) b.are ∙ take-append_seam new b.rest

pub begins_most : {A : Type 0} (new x : List A) → Begins new x → length new ≤ length x
begins_most new x b = omega (arith, ap length b.are, length-append new b.rest)

pub record Laid (ps : List Prefix) (l : Lent) : Type 0 where
  pub prefixes : Begins (map entry_of ps) l.prefixes
  pub routes : Begins (all_routes ps) l.routes
  pub borders : Begins (all_borders ps) l.borders

pub laid_by : (l : Lent) (D : Diag) (a : Answer Diag) (P : List PrefixEntry) (H : List HasRouteEntry) (B : List BorderRouterEntry)
    → outcome (given D) l.prefixes l.routes l.borders ≡ T.written a P H B → Laid (T.prefixes_of D) l
unfolding T.written
laid_by l D (given d) P H B e =
    let told : ◌≡◌ {A = Answer Diag} (given D) (given d) = ap (λ (o : T.Outcome). o.answer) e in
    let same : D ≡ d = cc in
    subst (λ (x : Diag). Laid (T.prefixes_of x) l) (sym same) record {
      prefixes = record { rest = drop (length (map entry_of (T.prefixes_of d))) P; are = ap (λ (o : T.Outcome). o.prefixes) e };
      routes = record { rest = drop (length (all_routes (T.prefixes_of d))) H; are = ap (λ (o : T.Outcome). o.routes) e };
      borders = record { rest = drop (length (all_borders (T.prefixes_of d))) B; are = ap (λ (o : T.Outcome). o.borders) e };
    }
laid_by l D absent P H B e = absurd (let told = ap (λ (o : T.Outcome). o.answer) e in let z : ◌≡◌ {A = ℕ} 0 1 = cc in omega arith)
laid_by l D (refused n p i) P H B e = absurd (let told = ap (λ (o : T.Outcome). o.answer) e in let z : ◌≡◌ {A = ℕ} 0 1 = cc in omega arith)

-- the used rows of tables with what was filled in
pub record Used (ps : List Prefix) (l : Lent) (c : Counts) : Type 0 where
  pub prefixes : take c.prefixes l.prefixes ≡ map entry_of ps
  pub routes : take c.has_routes l.routes ≡ all_routes ps
  pub borders : take c.border_routers l.borders ≡ all_borders ps

pub used : (ps : List Prefix) (l : Lent) (c : Counts) → Laid ps l → c ≡ N.counts_of ps → Used ps l c
unfolding N.counts_of
used ps l c d e = record {
  prefixes = ap (λ (x : Counts). take x.prefixes l.prefixes) e ∙ ap (λ (n : ℕ). take n l.prefixes) (sym (length-map ps entry_of)) ∙ begins_take (map entry_of ps) l.prefixes d.prefixes;
  routes = ap (λ (x : Counts). take x.has_routes l.routes) e ∙ begins_take (all_routes ps) l.routes d.routes;
  borders = ap (λ (x : Counts). take x.border_routers l.borders) e ∙ begins_take (all_borders ps) l.borders d.borders;
}

-- ---- what is said of each part
module _ (s : List ℕ) where
  pub said_same : {A : Type 0} (f : List ℕ → A) (a : Answer Part) → on_given (λ (q : Part). f (part_bytes s q)) a ≡ saying (on_given (said_at f s) a)
  said_same f (given q) = refl
  said_same f absent = refl
  said_same f (refused n p i) = refl

  pub addresses_same : (a : Answer Part) → Given (Sits s 8) a → on_given (part_bytes s) a ≡ on_given flat (saying (on_given (said_at addresses s) a))
  unfolding keeps_rule
  addresses_same (given q) g = ap given (sym (addresses_back (part_bytes s q) (eqb-true (length (part_bytes s q) % 16) 0 (keeps 8 (part_bytes s q) refl g.plain))))
  addresses_same absent g = refl
  addresses_same (refused n p i) g = refl

  pub children_same : (cs : List ChildTableEntry) (a : Answer Part) → Given (λ (q : Part). children_of cs q ≡ child_rows (part_bytes s q)) a
      → on_given (children_of cs) a ≡ saying (on_given (said_at child_rows s) a)
  children_same cs (given q) g = ap given g
  children_same cs absent g = refl
  children_same cs (refused n p i) g = refl

  pub route_same : (x : Route) (a : Answer Part) → Given (λ (q : Part). x ≡ R.route_of (part_bytes s q)) a → on_given (λ (q : Part). x) a ≡ saying (on_given (said_at R.route_of s) a)
  route_same x (given q) g = ap given g
  route_same x absent g = refl
  route_same x (refused n p i) g = refl

  pub network_same : Bytes s → (l : Lent) (y : Option NetworkDataPart) → Network s y → Given (λ (c : Counts). Laid (prefixes_in (opt_network_data s y)) l) (opt_counts y)
      → on_given (network_of l) (opt_counts y) ≡ on_given (λ (x : NetworkDataValue). x.prefixes) (saying (opt_network_data s y))
  unfolding prefixes_in
  network_same b l (Some x) k g =
      let ps = N.contents (bytes_at s x.start x.len) in
      let u = used ps l x.counts g k.counts in
      ap given (rw (u.prefixes, u.routes, u.borders) (filled_back ps (good_network (bytes_at s x.start x.len) (good s 7 (part x.start x.len) b k.plain)).fits))
  network_same b l None k g = refl

  -- ---- the address lists, as `child_list` hands them out
  abbrev pub handed : ChildIpv6AddrInfo → AddressList
  handed x = record { rloc16 = x.rloc16; child_id = x.child_id; addresses = said_at addresses s (part x.start x.len) }

  pub record Found (x : ChildIpv6AddrInfo) : Type 0 where
    pub inside : x.start + x.len ≤ length s
    pub whole : length (bytes_at s x.start x.len) % 16 ≡ 0

  pub found : (x : ChildIpv6AddrInfo) (e : Entry) → Kept s e → handed x ≡ address_list e → Found x
  unfolding keeps_rule
  found x e k h =
      let v = e.value in
      let t = both (leb 2 (length v)) (eqb ((length v - 2) % 16) 0) (keeps 30 v refl k.1) in
      let two = leb-true 2 (length v) t.0 in
      let start : x.start ≡ e.start + 2 = ap (λ (y : AddressList). y.addresses.start) h in
      let len : x.len ≡ length v - 2 = ap (λ (y : AddressList). y.addresses.len) h in
      let inside : x.start + x.len ≤ length s = omega (arith, k.0.1) in
      record { inside = inside; whole = rw (length_part s x.start x.len inside, len) (eqb-true ((length v - 2) % 16) 0 t.1) }

  one_same : (x : ChildIpv6AddrInfo) (y : AddressList) → Found x → handed x ≡ y → list_of s x ≡ list_value (unplaced y)
  one_same x y f h =
      ap (λ (v : List ℕ). record { rloc16 = x.rloc16; child_id = x.child_id; addresses = v }) (sym (addresses_back (bytes_at s x.start x.len) f.whole))
      ∙ ap (λ (z : AddressList). list_value (unplaced z)) h

  pub lists_same : (xs : List ChildIpv6AddrInfo) (es : List Entry) → Every (Kept s) es → map handed xs ≡ map address_list es
      → (Every Found xs) × (map (list_of s) xs ≡ map list_value (map unplaced (map address_list es)))
  lists_same [] [] k h = (tt, refl)
  lists_same [] (e ∷ es) k h = absurd (let z : ◌≡◌ {A = ℕ} 0 1 = cc in omega arith)
  lists_same (x ∷ xs) [] k h = absurd (let z : ◌≡◌ {A = ℕ} 0 1 = cc in omega arith)
  lists_same (x ∷ xs) (e ∷ es) k h =
      let first : handed x ≡ address_list e = cc in
      let others : map handed xs ≡ map address_list es = cc in
      let f = found x e k.0 first in
      let go = lists_same xs es k.1 others in
      ((f, go.0), ap (λ (y : ListValue). y ∷ map (list_of s) xs) (one_same x (address_list e) f first) ∙ ap (λ (l : List ListValue). list_value (unplaced (address_list e)) ∷ l) go.1)

  -- ---- what `child_row` and `decode_route64` hand out
  module _ (small : length s ≤ most_bytes) where
    pub value_read : (ty place : ℕ) (q : Part) → eqb ty 7 ≡ false → Sits s ty q → value_of ty place (part_bytes s q) ≡ given (part_bytes s q)
    value_read ty place q h w =
        value_kept ty place (part_bytes s q) (le-ltb most_bytes (length (part_bytes s q)) (omega (arith, length_part s q.start q.len w.inside, w.inside)))
        (keeps ty (part_bytes s q) h w.plain)

    pub children_are : (cs : List ChildTableEntry) (q : Part) → Sits s 16 q
        → ((k : ℕ) → k < q.len / 3 → nth cs k ≡ child_row (part_bytes s q) k)
        → children_of cs q ≡ child_rows (part_bytes s q)
    children_are cs q w h =
        let v = part_bytes s q in
        let read = value_read 16 0 q refl w in
        let many : length (child_rows v) ≡ q.len / 3 = child_count v ∙ ap (λ (n : ℕ). n / 3) (length_part s q.start q.len w.inside) in
        ap (λ (n : ℕ). take n cs) (sym many)
        ∙ rows_first (child_rows v) cs (λ k l. h k (omega (arith, l)) ∙ ap (λ (a : Answer (List ℕ)). then_do a (λ (v : List ℕ). nth (child_rows v) k)) read)

    pub route_is : (t : _) (place : ℕ) (q : Part) → Sits s 5 q → t ≡ laid_out (on_given R.route_of (value_of 5 place (part_bytes s q)))
        → route_used t ≡ R.route_of (part_bytes s q)
    unfolding laid_out routes table
    route_is t place q w h =
        let v = part_bytes s q in
        let read = value_read 5 place q refl w in
        ap route_used (h ∙ ap (λ (a : Answer (List ℕ)). laid_out (on_given R.route_of a)) read)
        ∙ ap (λ (l : List _). record { sequence = (R.route_of v).sequence; mask = (R.route_of v).mask; rows = l }) (take-append_seam (R.route_of v).rows _)
