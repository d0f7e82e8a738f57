-- The laws of the routers that a mask assigns, and of the length that it asks for.
-- Assumes nothing.
use mathlib.Core.Path.{◌≡◌, refl}
use mathlib.Core.Bool.{true, false}
use mathlib.Core.List.{List, [], ◌∷◌}
use Prim.Native.Nat.{ℕ, zero, suc, ◌+◌, ◌-◌, ◌≤◌, ◌<◌}
use native.Mathlib.Omega.{arith}
use native.Mathlib.Numerals.{add-one}
use lib.ListN.{length}
use lib.Dec.{eqb, leb}
use borrow.Author.Tests.{eqb-true}
use Rattle.refusal.specs.Answer.{pick}
use Rattle.laws.proofs.Tests.{pick_all}
use Rattle.diag_rules.specs.Mask.{assigned, routers, routers_of, routes_fit}
use Rattle.diag_rules.proofs.Kept.{both}

-- the routers from k on, up to 63
unfoldable pub rest : ℕ → List ℕ → List ℕ
rest k v = routers (64 - k) k v

module _ (k : ℕ) (v : List ℕ) (h : k < 64) where
  rest_step : rest k v ≡ pick (assigned v k) (k ∷ rest (k + 1) v) (rest (k + 1) v)
  unfolding rest routers
  rest_step =
      let z : 64 - k ≡ suc (64 - (k + 1)) = omega arith in
      rw z (rw (add-one k))

  pub rest_hit : assigned v k ≡ true → rest k v ≡ k ∷ rest (k + 1) v
  rest_hit e = rw e at rest_step

  pub rest_miss : assigned v k ≡ false → rest k v ≡ rest (k + 1) v
  rest_miss e = rw e at rest_step

pub rest_end : (k : ℕ) (v : List ℕ) → 64 ≤ k → rest k v ≡ []
unfolding rest routers
rest_end k v h = let z : 64 - k ≡ 0 = omega arith in rw z

pub rest_all : (v : List ℕ) → rest 0 v ≡ routers_of v
unfolding rest routers_of
rest_all v = refl

-- at most n of n
routers_few : (n k : ℕ) (v : List ℕ) → length (routers n k v) ≤ n
unfolding routers
routers_few zero k v = omega arith
routers_few (suc n) k v =
    let few = routers_few n (suc k) v in
    pick_all (λ (l : List ℕ). length l ≤ suc n) (assigned v k) (k ∷ routers n (suc k) v) (routers n (suc k) v) (λ e. omega arith) (λ e. omega arith)

pub few : (v : List ℕ) → length (routers_of v) ≤ 64
unfolding routers_of
few v = routers_few 64 0 v

-- what the rule says
pub fit_length : (v : List ℕ) → routes_fit v ≡ true → length v ≡ 9 + length (routers_of v)
unfolding routes_fit
fit_length v h = eqb-true _ _ (both (leb 9 (length v)) (eqb (length v) (9 + length (routers_of v))) h).1
