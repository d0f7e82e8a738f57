-- The sum of a Route64's rows is that of as many as it counts: those past them are zeros.
-- Assumes nothing.
use mathlib.Core.Path.{◌≡◌, refl, sym, ap, ◌∙◌, subst}
use mathlib.Core.List.{List, [], ◌++◌}
use Prim.Native.Nat.{ℕ, zero, suc, ◌+◌, ◌-◌, ◌^◌, ◌≤◌, ◌<◌}
use native.Mathlib.Omega.{arith}
use lib.ListN.{length, get_or, drop, replicate}
use lib.Seq.{get_or-append-add}
use Rattle.std.specs.Prelude.{Result, Ok, Err}
use Rattle.std.specs.Result.{ResultUnwrapsOrElse}
use Rattle.refusal.specs.Results.{answer_of}
use Rattle.refusal.specs.declared.Refusal.{Refusal}
use Rattle.refusal.specs.Answer.{Answer, given, absent, refused, on_given}
use Rattle.diag_rules.specs.Mask.{routers_of}
use Rattle.diag_rules.specs.Rule.{value_of}
use Rattle.diag_rules.proofs.Mask.{few}
use Rattle.route64.specs.declared.Route64.{Route64}
use Rattle.route64.specs.declared.RouteDataEntry.{RouteDataEntry}
use Rattle.route64.specs.Routes.{route_row, rows_of, route_rows, route_of, table, routes, zero_routes, laid_out}
use Rattle.route64.proofs.Routing.{rows_few}
use Rattle.value_sums.specs.Sums.{plus}
use Rattle.payload_sums.specs.Rows.{summed, route_sum, routes_sum, Counted}

-- adding zeros
summed_low : (f : ℕ → ℕ) (n : ℕ) → summed f n < 2 ^ 64
unfolding summed plus
summed_low f zero = omega arith
summed_low f (suc n) = omega arith

none_more : (f : ℕ → ℕ) (n m : ℕ) → ((k : ℕ) → n ≤ k → f k ≡ 0) → summed f (m + n) ≡ summed f n
unfolding summed plus
none_more f n zero h = let z : 0 + n ≡ n = omega arith in ap (summed f) z
none_more f n (suc m) h =
    let z : suc m + n ≡ suc (m + n) = omega arith in
    let low = summed_low f (m + n) in
    ap (summed f) z ∙ omega (arith, h (m + n) (omega arith), low) ∙ none_more f n m h

-- a table is zeros past its rows
zeros_at : (m k : ℕ) → get_or (replicate m (route_row 0 0)) k (route_row 0 0) ≡ route_row 0 0
zeros_at zero k = refl
zeros_at (suc m) zero = refl
zeros_at (suc m) (suc k) = zeros_at m k

past_rows : (xs : List RouteDataEntry) (m k : ℕ) → length xs ≤ k → get_or (xs ++ replicate m (route_row 0 0)) k (route_row 0 0) ≡ route_row 0 0
past_rows xs m k h =
    let z : k ≡ length xs + (k - length xs) = omega arith in
    ap (λ (i : ℕ). get_or (xs ++ replicate m (route_row 0 0)) i (route_row 0 0)) z ∙ get_or-append-add xs _ (k - length xs) (route_row 0 0) ∙ zeros_at m (k - length xs)

zero_sum : route_sum (route_row 0 0) ≡ 0
unfolding route_sum plus
zero_sum = refl

table_sum : (xs : List RouteDataEntry) → length xs ≤ 64 → summed (λ k. route_sum (get_or (table xs) k (route_row 0 0))) (length xs) ≡ routes_sum (table xs)
unfolding table
table_sum xs h =
    let z : 64 - length xs + length xs ≡ 64 = omega arith in
    sym (none_more _ (length xs) (64 - length xs) (λ k l. ap route_sum (past_rows xs (64 - length xs) k l) ∙ zero_sum)) ∙ ap (summed _) z

-- a Route64 that is read, and zeros where it is refused
read_by : (a : Answer (List ℕ)) (r : Result Route64 Refusal) → answer_of r ≡ on_given routes (on_given route_of a) → (x : Route64)
    → ResultUnwrapsOrElse r (λ z. z ≡ zero_routes) x → x ≡ laid_out (on_given route_of a)
unfolding laid_out
read_by (given v) (Ok y) e x h = h ∙ (let z : y ≡ routes (route_of v) = cc in z)
read_by (given v) (Err q) e x h = absurd (let z : ◌≡◌ {A = ℕ} 0 1 = cc in omega arith)
read_by absent (Ok y) e x h = absurd (let z : ◌≡◌ {A = ℕ} 0 1 = cc in omega arith)
read_by absent (Err q) e x h = absurd (let z : ◌≡◌ {A = ℕ} 0 1 = cc in omega arith)
read_by (refused n p i) (Ok y) e x h = absurd (let z : ◌≡◌ {A = ℕ} 0 1 = cc in omega arith)
read_by (refused n p i) (Err q) e x h = h

pub route_read : (v : List ℕ) (r : Result Route64 Refusal) → answer_of r ≡ on_given routes (on_given route_of (value_of 5 0 v)) → (x : Route64)
    → ResultUnwrapsOrElse r (λ z. z ≡ zero_routes) x → x ≡ laid_out (on_given route_of (value_of 5 0 v))
route_read v = read_by (value_of 5 0 v)

laid_counted : (a : Answer (List ℕ)) → Counted (laid_out (on_given route_of a)).route_data (laid_out (on_given route_of a)).count
unfolding laid_out routes zero_routes route_rows
laid_counted (given v) =
    let low : length (rows_of (routers_of v) (drop 9 v)) ≤ 64 = omega (arith, rows_few (routers_of v) (drop 9 v), few v) in
    (low, table_sum _ low)
laid_counted absent = (omega arith, table_sum [] (omega arith))
laid_counted (refused n p i) = (omega arith, table_sum [] (omega arith))

pub read_counted : (v : List ℕ) (x : Route64) → x ≡ laid_out (on_given route_of (value_of 5 0 v)) → Counted x.route_data x.count
read_counted v x e = subst (λ (y : Route64). Counted y.route_data y.count) (sym e) (laid_counted (value_of 5 0 v))
