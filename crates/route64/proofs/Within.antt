-- What holds of a Route64's rows: that their fields are within their bits, and that they are in ascending router order, one for each mask bit.
-- Assumes nothing.
use mathlib.Core.Path.{◌≡◌, refl, sym, ap, ◌∙◌}
use mathlib.Core.Bool.{true}
use mathlib.Core.List.{List, [], ◌∷◌, map}
use Prim.Native.Nat.{ℕ, zero, suc, ◌+◌, ◌-◌, ◌*◌, ◌/◌, ◌%◌, ◌^◌, ◌≤◌, ◌<◌}
use native.Mathlib.Omega.{arith}
use lib.ListN.{length, drop, length-drop}
use lib.Dec.{eqb}
use borrow.Author.Tests.{eqb-true, eqb-false}
use Rattle.refusal.specs.Every.{Every}
use Rattle.laws.proofs.Tests.{pick_all}
use Rattle.laws.proofs.Parts.{elements, part_elements}
use Rattle.diag_rules.specs.Mask.{byte_at, bit_of, assigned, routers, routers_of, routes_fit}
use Rattle.diag_rules.proofs.Mask.{fit_length}
use Rattle.route64.specs.Routes.{mask_of, rows_of, route_rows}
use Rattle.route64.specs.declared.RouteDataEntry.{RouteDataEntry}
use Rattle.route64.proofs.Routing.{fit_rows}

pub route_count : (v : List ℕ) → routes_fit v ≡ true → length (route_rows v) ≡ length v - 9
route_count v h = omega (arith, fit_rows v h, fit_length v h)

abbrev pub RouteWithin : RouteDataEntry → Type 0
RouteWithin r = (r.router_id < 64) × (r.outgoing_link_quality < 4) × (r.incoming_link_quality < 4) × (r.route_cost < 16)

-- ---- Route64: the routers, ascending

abbrev pub Ascending : List ℕ → Type 0
Ascending [] = Unit {0}
Ascending (x ∷ xs) = Every (λ (y : ℕ). x < y) xs × Ascending xs

-- the routers among n from k on
routers_between : (n k l : ℕ) (v : List ℕ) → l ≤ k → Every (λ (y : ℕ). (l ≤ y) × (y < k + n)) (routers n k v)
unfolding routers
routers_between zero k l v h = tt
routers_between (suc n) k l v h =
    let rest : Every (λ (y : ℕ). (l ≤ y) × (y < k + suc n)) (routers n (suc k) v) = wider (routers n (suc k) v) (routers_between n (suc k) l v (omega arith)) in
    pick_all (λ (x : List ℕ). Every (λ (y : ℕ). (l ≤ y) × (y < k + suc n)) x) (assigned v k) (k ∷ routers n (suc k) v) (routers n (suc k) v)
    (λ e. ((h, omega arith), rest)) (λ e. rest)
  where
    wider : (x : List ℕ) → Every (λ (y : ℕ). (l ≤ y) × (y < suc k + n)) x → Every (λ (y : ℕ). (l ≤ y) × (y < k + suc n)) x
    wider [] e = tt
    wider (y ∷ x) e = ((e.0.0, omega (arith, e.0.1)), wider x e.1)

routers_ascend : (n k : ℕ) (v : List ℕ) → Ascending (routers n k v)
unfolding routers
routers_ascend zero k v = tt
routers_ascend (suc n) k v =
    let rest = routers_ascend n (suc k) v in
    pick_all Ascending (assigned v k) (k ∷ routers n (suc k) v) (routers n (suc k) v)
    (λ e. (later (routers n (suc k) v) (routers_between n (suc k) (suc k) v (omega arith)), rest)) (λ e. rest)
  where
    later : (x : List ℕ) → Every (λ (y : ℕ). (suc k ≤ y) × (y < suc k + n)) x → Every (λ (y : ℕ). k < y) x
    later [] e = tt
    later (y ∷ x) e = (omega (arith, e.0.0), later x e.1)

abbrev pub routers_in : List RouteDataEntry → List ℕ
routers_in rows = map (λ (r : RouteDataEntry). r.router_id) rows

rows_routers : (ks bs : List ℕ) → length ks ≤ length bs → routers_in (rows_of ks bs) ≡ ks
unfolding rows_of
rows_routers [] bs h = refl
rows_routers (k ∷ ks) [] h = absurd (omega arith)
rows_routers (k ∷ ks) (b ∷ bs) h = ap (◌∷◌ k) (rows_routers ks bs (omega arith))

module _ (v : List ℕ) (fit : routes_fit v ≡ true) where
  -- each assigned router has its row, in order
  pub rows_are : routers_in (route_rows v) ≡ routers_of v
  unfolding route_rows
  rows_are = rows_routers (routers_of v) (drop 9 v) (simp length-drop (omega (arith, fit_length v fit)))

  pub rows_ascend : Ascending (routers_in (route_rows v))
  unfolding routers_of
  rows_ascend = rw rows_are (routers_ascend 64 0 v)

rows_within : (ks bs : List ℕ) → Every (λ (k : ℕ). (0 ≤ k) × (k < 64)) ks → Every RouteWithin (rows_of ks bs)
unfolding rows_of
rows_within [] bs h = tt
rows_within (k ∷ ks) [] h = tt
rows_within (k ∷ ks) (b ∷ bs) h = ((h.0.1, omega arith, omega arith, omega arith), rows_within ks bs h.1)

pub route_within : (v : List ℕ) → Every RouteWithin (route_rows v)
unfolding route_rows routers_of
route_within v = rows_within (routers 64 0 v) (drop 9 v) (routers_between 64 0 0 v (omega arith))

-- ---- Route64: one row for each mask bit that is set

abbrev pub bits_in : ℕ → ℕ
bits_in b = b / 128 % 2 + (b / 64 % 2 + (b / 32 % 2 + (b / 16 % 2 + (b / 8 % 2 + (b / 4 % 2 + (b / 2 % 2 + b / 1 % 2))))))

abbrev pub bits_in_all : List ℕ → ℕ
bits_in_all [] = 0
bits_in_all (b ∷ bs) = bits_in b + bits_in_all bs

-- the bit of router k, and the sum of n of them
abbrev bit_at : List ℕ → ℕ → ℕ
bit_at v k = byte_at v (1 + k / 8) / 2 ^ (7 - k % 8) % 2

abbrev sum_from : (n k : ℕ) → List ℕ → ℕ
sum_from zero k v = 0
sum_from (suc n) k v = bit_at v k + sum_from n (suc k) v

count_is : (n k : ℕ) (v : List ℕ) → length (routers n k v) ≡ sum_from n k v
unfolding routers bit_of
count_is zero k v = refl
count_is (suc n) k v =
    let rest = count_is n (suc k) v in
    pick_all (λ (l : List ℕ). length l ≡ bit_at v k + sum_from n (suc k) v) (eqb (bit_at v k) 1) (k ∷ routers n (suc k) v) (routers n (suc k) v)
    (λ e. omega (arith, eqb-true (bit_at v k) 1 e)) (λ e. omega (arith, eqb-false (bit_at v k) 1 e))

abbrev eight : ℕ → ℕ
eight n = suc (suc (suc (suc (suc (suc (suc (suc n)))))))

abbrev eights : ℕ → ℕ
eights zero = 0
eights (suc m) = eight (eights m)

joined : (a b c d e f g h r : ℕ) → a + (b + (c + (d + (e + (f + (g + (h + r))))))) ≡ a + (b + (c + (d + (e + (f + (g + h)))))) + r
joined a b c d e f g h r = omega arith

module _ (v : List ℕ) where
  bit_is : (j i k : ℕ) → k ≡ j * 8 + i → i < 8 → bit_at v k ≡ byte_at v (suc j) / 2 ^ (7 - i) % 2
  bit_is j i k e h =
      let byte : 1 + k / 8 ≡ suc j = omega arith in
      let bit : k % 8 ≡ i = omega arith in
      rw (byte, bit)

  -- the eight bits of a byte, in order
  byte_step : (n j k : ℕ) → k ≡ j * 8 → sum_from (eight n) k v ≡ bits_in (byte_at v (suc j)) + sum_from n (eight k) v
  byte_step n j k e =
      rw (
        bit_is j 0 k (omega arith) (omega arith),
        bit_is j 1 (suc k) (omega arith) (omega arith),
        bit_is j 2 (suc (suc k)) (omega arith) (omega arith),
        bit_is j 3 (suc (suc (suc k))) (omega arith) (omega arith),
        bit_is j 4 (suc (suc (suc (suc k)))) (omega arith) (omega arith),
        bit_is j 5 (suc (suc (suc (suc (suc k))))) (omega arith) (omega arith),
        bit_is j 6 (suc (suc (suc (suc (suc (suc k)))))) (omega arith) (omega arith),
        bit_is j 7 (suc (suc (suc (suc (suc (suc (suc k))))))) (omega arith) (omega arith),
      )
      (joined _ _ _ _ _ _ _ _ _)

  bytes_sum : (m j k : ℕ) → k ≡ j * 8 → sum_from (eights m) k v ≡ bits_in_all (elements m (suc j) v)
  bytes_sum zero j k e = refl
  bytes_sum (suc m) j k e =
      byte_step (eights m) j k e ∙ ap (λ (x : ℕ). bits_in (byte_at v (suc j)) + x) (bytes_sum m (suc j) (eight k) (omega arith))

  -- the routers are as many as the mask bits that are set, and so are the rows
  pub routers_count : 9 ≤ length v → length (routers_of v) ≡ bits_in_all (mask_of v)
  unfolding routers_of
  routers_count h = count_is 64 0 v ∙ bytes_sum 8 0 0 refl ∙ ap bits_in_all (sym (part_elements 8 1 v h))

  pub rows_count : routes_fit v ≡ true → length (route_rows v) ≡ bits_in_all (mask_of v)
  rows_count fit = fit_rows v fit ∙ routers_count (omega (arith, fit_length v fit))
