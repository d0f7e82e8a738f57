-- What the calls answer on parts of a payload that was read, and Network Data of used rows.
-- Assumes nothing.
use mathlib.Core.Path.{◌≡◌, refl, ap, ◌∙◌, subst}
use mathlib.Core.Bool.{true, false}
use mathlib.Core.List.{List, [], ◌∷◌}
use Prim.Native.Nat.{ℕ, zero, suc, ◌%◌, ◌≤◌}
use native.Mathlib.Omega.{arith}
use lib.ListN.{length, take}
use lib.Seq.{length-take-le}
use lib.Dec.{eqb}
use borrow.Author.Tests.{eqb-true, le-leb}
use Rattle.std.specs.Prelude.{Option, None, Some}
use Rattle.refusal.specs.Sizes.{most_bytes}
use Rattle.refusal.specs.Every.{Every}
use Rattle.refusal.specs.Answer.{Answer, given, absent, refused, then_do, on_given}
use Rattle.refusal.specs.Numbered.{nth}
use Rattle.refusal.specs.Results.{option_of}
use Rattle.diag_rules.specs.Rule.{value_of}
use Rattle.network_data.specs.Decode.{Prefix}
use Rattle.network_data.specs.Decode as N
use Rattle.network_data.specs.declared.Counts.{Counts}
use Rattle.network_plans.specs.Planned.{room_for}
use Rattle.route64.specs.Routes.{Route, routes}
use Rattle.route64.specs.Routes as R
use Rattle.diag_rows.specs.Rows.{addresses}
use Rattle.diag_rows.specs.declared.Part.{Part}
use Rattle.diag_entries.specs.Parts.{Said}
use Rattle.diag_entries.specs.Answers.{bytes_at}
use Rattle.diag.specs.Diag.{NetworkDataValue}
use Rattle.diag.specs.declared.NetworkDataPart.{NetworkDataPart}
use Rattle.diag.specs.Answers.{opt_network_data}
use Rattle.diag_tables.specs.Tables.{prefixes_in}
use Rattle.network_writing.proofs.Agree.{all_routes_lem, all_borders_lem, as_many}
use Rattle.value_writing.specs.Fits.{whole_addresses}
use Rattle.value_writing.proofs.Again.{addresses_back}
use Rattle.record_writing.specs.Fits.{passes}
use Rattle.record_writing.specs.Typed.{Given}
use Rattle.record_writing.specs.Reading.{saying, or_absent}
use Rattle.record_writing.specs.Again.{flat}
use Rattle.record_writing.specs.Lent.{Lent, part_bytes, opt_counts, network_of}
use Rattle.record_writing.specs.Written.{tables_agree}
use Rattle.record_writing.proofs.Told.{Counted, counted}
use Rattle.rehearsal.specs.Back.{nth_in}
use Rattle.rehearsal.proofs.Sits.{Sits, Network}
use Rattle.rehearsal.proofs.Same.{value_read}

-- ---- Network Data

-- the prefixes of the used rows have as many rows as are counted
pub counts_are : (l : Lent) (c : Counts) → Counted l c → N.counts_of (network_of l c) ≡ c
unfolding N.counts_of
counts_are l c k =
    rw (
      as_many (take c.prefixes l.prefixes) (take c.has_routes l.routes) (take c.border_routers l.borders),
      all_routes_lem (take c.prefixes l.prefixes) (take c.has_routes l.routes) (take c.border_routers l.borders) k.routes_all,
      all_borders_lem (take c.prefixes l.prefixes) (take c.has_routes l.routes) (take c.border_routers l.borders) k.borders_all,
      length-take-le c.prefixes l.prefixes k.prefixes,
      length-take-le c.has_routes l.routes k.routes,
      length-take-le c.border_routers l.borders k.borders,
    )

abbrev pub prefixes_said : Answer (Said NetworkDataValue) → Answer (List Prefix)
prefixes_said x = on_given (λ (y : NetworkDataValue). y.prefixes) (saying x)

pub network_back : (bs : List ℕ) (l : Lent) (y z : Option NetworkDataPart) → Network bs y → passes (tables_agree l) (opt_counts z) ≡ true
    → prefixes_said (opt_network_data bs y) ≡ or_absent (on_given (network_of l) (opt_counts z)) → opt_counts y ≡ opt_counts z
unfolding passes
network_back bs l (Some y) (Some z) k t h =
    let same : N.contents (bytes_at bs y.start y.len) ≡ network_of l z.counts = cc in
    ap given (k.counts ∙ ap N.counts_of same ∙ counts_are l z.counts (counted l z.counts t))
network_back bs l (Some y) None k t h = absurd (let z : ◌≡◌ {A = ℕ} 0 1 = cc in omega arith)
network_back bs l None (Some z) k t h = absurd (let z : ◌≡◌ {A = ℕ} 0 1 = cc in omega arith)
network_back bs l None None k t h = refl

pub prefixes_in_lem : (x : Answer (Said NetworkDataValue)) (ps : List Prefix) → prefixes_said x ≡ given ps → prefixes_in x ≡ ps
unfolding prefixes_in
prefixes_in_lem (given x) ps h = cc
prefixes_in_lem absent ps h = absurd (let z : ◌≡◌ {A = ℕ} 0 1 = cc in omega arith)
prefixes_in_lem (refused m p i) ps h = absurd (let z : ◌≡◌ {A = ℕ} 0 1 = cc in omega arith)

pub none_in : (x : Answer (Said NetworkDataValue)) → prefixes_said x ≡ absent → prefixes_in x ≡ []
unfolding prefixes_in
none_in (given x) h = absurd (let z : ◌≡◌ {A = ℕ} 0 1 = cc in omega arith)
none_in absent h = refl
none_in (refused m p i) h = refl

pub has_room : (c : Counts) (x y z : ℕ) → c.prefixes ≤ x → c.has_routes ≤ y → c.border_routers ≤ z → room_for c x y z ≡ given c
unfolding room_for
has_room c x y z i j k = rw (le-leb c.prefixes x i, le-leb c.has_routes y j, le-leb c.border_routers z k)

-- ---- rows by their number
pub every_nth : {A : Type 0} (P : A → Type 0) (xs : List A) (k : ℕ) (x : A) → Every P xs → nth xs k ≡ given x → P x
unfolding nth
every_nth P [] k x h e = absurd (let z : ◌≡◌ {A = ℕ} 0 1 = cc in omega arith)
every_nth P (y ∷ ys) zero x h e = let same : y ≡ x = cc in subst P same h.0
every_nth P (y ∷ ys) (suc k) x h e = every_nth P ys k x h.1 e

pub never_refused : {A : Type 0} (xs : List A) (k m p i : ℕ) → refused m p i ≡ nth xs k → ⊥
unfolding nth
never_refused [] k m p i e = absurd (let z : ◌≡◌ {A = ℕ} 0 1 = cc in omega arith)
never_refused (x ∷ xs) zero m p i e = absurd (let z : ◌≡◌ {A = ℕ} 0 1 = cc in omega arith)
never_refused (x ∷ xs) (suc k) m p i e = never_refused xs k m p i e

pub absent_on : {A B : Type 0} (f : A → B) (x : Answer A) → absent ≡ on_given f x → absent ≡ x
absent_on f (given x) e = absurd (let z : ◌≡◌ {A = ℕ} 0 1 = cc in omega arith)
absent_on f absent e = refl
absent_on f (refused m p i) e = absurd (let z : ◌≡◌ {A = ℕ} 0 1 = cc in omega arith)

-- ---- what the calls answer on a part
constant : {A B : Type 0} (x y : B) (b : Answer A) → given y ≡ on_given (λ (z : A). x) b → y ≡ x
constant x y (given z) e = cc
constant x y absent e = absurd (let z : ◌≡◌ {A = ℕ} 0 1 = cc in omega arith)
constant x y (refused m p i) e = absurd (let z : ◌≡◌ {A = ℕ} 0 1 = cc in omega arith)

module _ (bs : List ℕ) (small : length bs ≤ most_bytes) where
  pub router_by : (x : Route) (a b : Answer Part) → Given (Sits bs 5) a → on_given (λ (q : Part). R.route_of (part_bytes bs q)) a ≡ on_given (λ (q : Part). x) b
      → Given (λ (q : Part). (place : ℕ) → on_given routes (on_given R.route_of (value_of 5 place (part_bytes bs q))) ≡ given (routes x)) a
  router_by x (given q) b w h =
      λ place.
      ap (λ (v : Answer (List ℕ)). on_given routes (on_given R.route_of v)) (value_read bs small 5 place q refl w)
      ∙ ap (λ (y : Route). given (routes y)) (constant x (R.route_of (part_bytes bs q)) b h)
  router_by x absent b w h = tt
  router_by x (refused m p i) b w h = tt

  pub rows_by : {A : Type 0} (ty : ℕ) (f : List ℕ → List A) (a : Answer Part) (b : Answer (List A)) → eqb ty 7 ≡ false → Given (Sits bs ty) a → on_given (λ (q : Part). f (part_bytes bs q)) a ≡ b
      → Given (λ (q : Part). (k : ℕ) → then_do (value_of ty 0 (part_bytes bs q)) (λ (v : List ℕ). nth (f v) k) ≡ nth_in b k) a
  rows_by ty f (given q) b h w e =
      λ k.
      ap (λ (v : Answer (List ℕ)). then_do v (λ (x : List ℕ). nth (f x) k)) (value_read bs small ty 0 q h w)
      ∙ ap (λ (y : Answer (List _)). nth_in y k) e
  rows_by ty f absent b h w e = tt
  rows_by ty f (refused m p i) b h w e = tt

-- "whole 16-byte addresses": their bytes are known by the addresses
pub addresses_or : (s : List ℕ) (x : Option Part) → passes whole_addresses (on_given (part_bytes s) (option_of x)) ≡ true
    → on_given flat (or_absent (on_given addresses (on_given (part_bytes s) (option_of x)))) ≡ on_given (part_bytes s) (option_of x)
unfolding passes
addresses_or s (Some q) h = ap given (addresses_back (part_bytes s q) (eqb-true (length (part_bytes s q) % 16) 0 h))
addresses_or s None h = refl
