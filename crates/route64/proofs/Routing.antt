-- The laws of the rows of the routers that a mask assigns.
-- Assumes nothing.
use mathlib.Core.Path.{◌≡◌, refl, ap, ◌∙◌}
use mathlib.Core.Bool.{true}
use mathlib.Core.List.{List, [], ◌∷◌, ◌++◌}
use Prim.Native.Nat.{ℕ, zero, suc, ◌+◌, ◌-◌, ◌≤◌, ◌<◌}
use native.Mathlib.Omega.{arith}
use native.Mathlib.Numerals.{add-one, unary_clauses}
use native.Mathlib.Nat.{zero-add}
use lib.ListN.{length, get_or, drop, set, replicate, length-set, length-replicate, length-drop, drop_of_length-le}
use lib.Seq.{drop-cons, sets, sets-eq}
use Rattle.route64.specs.declared.RouteDataEntry.{RouteDataEntry}
use Rattle.diag_rules.specs.Mask.{byte_at, routers_of, routes_fit}
use Rattle.route64.specs.Routes.{route_of, mask_of, routes, route_row, rows_of, route_rows, table}
use Rattle.diag_rules.proofs.Mask.{few, fit_length}

-- each router has its row
rows_length : (ks bs : List ℕ) → length ks ≤ length bs → length (rows_of ks bs) ≡ length ks
unfolding rows_of
rows_length [] bs h = refl
rows_length (k ∷ ks) [] h = absurd (omega arith)
rows_length (k ∷ ks) (b ∷ bs) h = ap suc (rows_length ks bs (omega arith))

pub rows_few : (ks bs : List ℕ) → length (rows_of ks bs) ≤ length ks
unfolding rows_of
rows_few [] bs = omega arith
rows_few (k ∷ ks) [] = omega arith
rows_few (k ∷ ks) (b ∷ bs) = let few = rows_few ks bs in omega arith

pub fit_rows : (v : List ℕ) → routes_fit v ≡ true → length (route_rows v) ≡ length (routers_of v)
unfolding route_rows
fit_rows v h = rows_length (routers_of v) (drop 9 v) (simp length-drop (omega (arith, fit_length v h)))

-- rows laid from place n on
unfoldable pub lay : List RouteDataEntry → ℕ → List RouteDataEntry → List RouteDataEntry
lay rows n xs = sets rows n xs

drop_replicate : (m n : ℕ) (x : RouteDataEntry) → drop m (replicate n x) ≡ replicate (n - m) x
drop_replicate zero n x = simp unary_clauses
drop_replicate (suc m) zero x = let z : 0 - suc m ≡ 0 = omega arith in rw z
drop_replicate (suc m) (suc n) x = simp unary_clauses (drop_replicate m n x)

pub lay_all : (xs : List RouteDataEntry) → length xs ≤ 64 → lay (replicate 64 (route_row 0 0)) 0 xs ≡ table xs
unfolding lay table
lay_all xs h =
    sets-eq xs (replicate 64 (route_row 0 0)) 0 (simp length-replicate (omega arith))
    ∙ simp zero-add (ap (λ (l : List RouteDataEntry). xs ++ l) (drop_replicate (length xs) 64 (route_row 0 0)))

-- a loop that lays the rows of the routers ks that are left, n of which are laid: where it begins, one row more, the same routers seen otherwise, and the end
pub record Laying (v : List ℕ) (rows : List RouteDataEntry) (n : ℕ) (ks : List ℕ) : Type 0 where
  pub long : length rows ≡ 64
  pub bytes : length v ≡ 9 + (n + length ks)
  pub few : n + length ks ≤ 64
  pub is : lay rows n (rows_of ks (drop (9 + n) v)) ≡ table (route_rows v)

module _ (v : List ℕ) where
  pub laying_start : routes_fit v ≡ true → Laying v (replicate 64 (route_row 0 0)) 0 (routers_of v)
  unfolding route_rows
  laying_start h = record {
    long = refl;
    bytes = omega (arith, fit_length v h);
    few = omega (arith, few v);
    is = lay_all (route_rows v) (omega (arith, fit_rows v h, few v));
  }

  module _ (rows : List RouteDataEntry) (n : ℕ) (ks : List ℕ) (d : Laying v rows n ks) where
    pub laying_hit : (k m : ℕ) (ms : List ℕ) → ks ≡ k ∷ ms → m ≡ k → Laying v (set rows n (route_row m (get_or v (9 + n) 0))) (n + 1) ms
    unfolding lay rows_of
    laying_hit k m ms e same =
        let one = ap length e in
        let z : 9 + (n + 1) ≡ suc (9 + n) = omega arith in
        let l : 9 + n < length v = omega (arith, d.bytes) in
        record {
          long = length-set rows n _ ∙ d.long;
          bytes = omega (arith, d.bytes);
          few = omega (arith, d.few);
          is = rw (same, z, add-one n) (rw (e, drop-cons v (9 + n) 0 l) at d.is);
        }

    pub laying_same : (ms : List ℕ) → ks ≡ ms → Laying v rows n ms
    laying_same ms e = rw e at d

    pub laying_end : ks ≡ [] → rows ≡ table (route_rows v)
    unfolding lay rows_of
    laying_end h = rw h at d.is

-- on the way to row k: the rows of the routers ks that are left, whose bytes start at the place at
rows_out : (ks : List ℕ) → rows_of ks [] ≡ []
unfolding rows_of
rows_out [] = refl
rows_out (k ∷ ks) = refl

unfoldable pub rows_from : List ℕ → (ks : List ℕ) → (at : ℕ) → List RouteDataEntry
rows_from v ks at = rows_of ks (drop at v)

module _ (v : List ℕ) where
  pub row_start : rows_from v (routers_of v) 9 ≡ route_rows v
  unfolding rows_from route_rows
  row_start = refl

  module _ (ks : List ℕ) (at : ℕ) where
    pub row_out : length v ≤ at → rows_from v ks at ≡ []
    unfolding rows_from
    row_out h = rw (drop_of_length-le v {i = at} h) (rows_out ks)

    pub row_end : ks ≡ [] → rows_from v ks at ≡ []
    unfolding rows_from rows_of
    row_end h = rw h

    pub row_hit : (k : ℕ) (ms : List ℕ) → ks ≡ k ∷ ms → at < length v → rows_from v ks at ≡ route_row k (get_or v at 0) ∷ rows_from v ms (at + 1)
    unfolding rows_from rows_of
    row_hit k ms e l = rw (e, drop-cons v at 0 l, ← add-one at)

    pub row_same : (ms : List ℕ) → ks ≡ ms → rows_from v ks at ≡ rows_from v ms at
    row_same ms e = ap (λ (l : List ℕ). rows_from v l at) e

-- the Route64 that a value is handed out as
pub routes_are : (v mask : List ℕ) (rows : List RouteDataEntry) (k : ℕ) → routes_fit v ≡ true → mask ≡ mask_of v → rows ≡ table (route_rows v)
    → k ≡ length v - 9 → record { id_sequence = byte_at v 0; mask = mask; count = k; route_data = rows } ≡ routes (route_of v)
unfolding routes
routes_are v mask rows k h m e same =
    let n : k ≡ length (route_rows v) = omega (arith, fit_rows v h, fit_length v h) in
    simp (m, e, n)
