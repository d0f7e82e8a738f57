-- A Route64 by value: its tables are full, and its rows are compared with its mask one by one.
-- Assumes nothing.
use mathlib.Core.Path.{◌≡◌, sym, ap, ◌∙◌}
use mathlib.Core.Bool.{Bool, true, false}
use mathlib.Core.List.{List, [], ◌∷◌, map}
use Prim.Native.Nat.{ℕ, zero, suc, ◌+◌, ◌≤◌, ◌<◌}
use native.Mathlib.Omega.{arith}
use lib.ListN.{length, get_or}
use lib.Dec.{eqb}
use borrow.Author.Tests.{eqb-true, eqb-false, eq-eqb, ne_eqb}
use mir.Val.{Val}
use mir.Syntax.{w8}
use denote.Laws.{Is}
use denote.Array.{each}
use denote.Plain.{UInt}
use denote.Shadow.{shadow}
use denote.Struct.Laws as LL
use Rattle.refusal.specs.Answer.{pick}
use Rattle.refusal.specs.Each.{same}
use Rattle.laws.proofs.Tests.{by_test}
use Rattle.diag_rules.specs.Mask.{byte_at, routers_of}
use Rattle.route64.specs.declared.Route64.{Route64}
use Rattle.route64.specs.declared.RouteDataEntry.{RouteDataEntry}
use Rattle.route64.specs.contracts.Route64 as R
use Rattle.route64.proofs.Route64.TheLaws as R'
use Rattle.route64.specs.Routes.{route_row}
use Rattle.value_writing.specs.Fits.{router, mask_agrees}
use Rattle.record_writing.specs.Lent.{route_used}
use Rattle.writing_plans.proofs.Left.{left, left_start, left_end, left_more}

-- the bytes of an array are below 256
each_small : (xs : List ℕ) (us : List Val) → shadow (each ℕ (UInt w8).own_val xs us) → (j : ℕ) → get_or xs j 0 < 256
each_small [] us p j = omega arith
each_small (x ∷ xs) [] p j = absurd p
each_small (x ∷ xs) (u ∷ us) p zero = p.0.1
each_small (x ∷ xs) (u ∷ us) p (suc j) = each_small xs us p.1 j

module _ (t : Route64) (vs : List Val) (p : Is R.the_row t vs) where
  pub full_mask : length t.mask ≡ 8
  full_mask = (LL.owed R.the_type R'.the_laws t vs p).1.0.1.0.1

  pub mask_small : (j : ℕ) → get_or t.mask j 0 < 256
  mask_small = let mask = (LL.owed R.the_type R'.the_laws t vs p).1.0 in each_small t.mask mask.0 mask.1.1

  pub full_rows : length t.route_data ≡ 64
  full_rows = (LL.owed R.the_type R'.the_laws t vs p).1.1.1.0.1.0.1

-- the mask's bytes, where it stands alone
pub mask_byte : (m : List ℕ) (j : ℕ) → byte_at (0 ∷ m) (1 + j) ≡ get_or m j 0
mask_byte m j = let z : 1 + j ≡ suc j = omega arith in rw z

-- ---- the rows from n on against the routers that are left
module _ (t : Route64) where
  unfoldable pub agree : (n : ℕ) → (routers : List ℕ) → Bool
  agree n ks = same (map router (left t.route_data t.count n)) ks

  pub agree_start : agree 0 (routers_of (0 ∷ t.mask)) ≡ mask_agrees (route_used t)
  unfolding agree mask_agrees
  agree_start = rw (left_start t.route_data t.count)

  -- no router is left
  none : (n : ℕ) → t.count ≤ n → agree n [] ≡ true
  unfolding agree same
  none n l = rw (left_end t.route_data t.count n l)

  more : (n : ℕ) → n < t.count → t.count ≤ length t.route_data → agree n [] ≡ false
  unfolding agree same
  more n l m = rw (left_more t.route_data t.count (route_row 0 0) n l m)

  pub agree_end : (n : ℕ) → n ≤ t.count → t.count ≤ length t.route_data → agree n [] ≡ eqb n t.count
  agree_end n l m =
      by_test (eqb n t.count) (λ e. none n (omega (arith, eqb-true n t.count e)) ∙ sym e)
      (λ e. more n (omega (arith, eqb-false n t.count e)) m ∙ sym e)

  module _ (n k : ℕ) (ks : List ℕ) where
    pub agree_short : t.count ≤ n → agree n (k ∷ ks) ≡ false
    unfolding agree same
    agree_short l = rw (left_end t.route_data t.count n l)

    module _ (d : RouteDataEntry) (l : n < t.count) (m : t.count ≤ length t.route_data) where
      step : agree n (k ∷ ks) ≡ pick (eqb (get_or t.route_data n d).router_id k) (agree (n + 1) ks) false
      unfolding agree same
      step = rw (left_more t.route_data t.count d n l m)

      pub agree_other : ((get_or t.route_data n d).router_id ≡ k → ⊥) → agree n (k ∷ ks) ≡ false
      agree_other x = step ∙ ap (λ (b : Bool). pick b (agree (n + 1) ks) false) (ne_eqb _ k x)

      pub agree_hit : (get_or t.route_data n d).router_id ≡ k → agree (n + 1) ks ≡ agree n (k ∷ ks)
      agree_hit x = sym (step ∙ ap (λ (b : Bool). pick b (agree (n + 1) ks) false) (eq-eqb _ k x))
