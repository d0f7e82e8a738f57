-- Each layout by itself: what was read of a value that keeps its rule can be written, and is no longer than it was.
-- Assumes nothing.
use mathlib.Core.Path.{◌≡◌, refl, sym, ap, ◌∙◌}
use mathlib.Core.Bool.{Bool, true, false}
use mathlib.Core.List.{List, [], ◌∷◌, ◌++◌}
use Prim.Native.Nat.{ℕ, zero, suc, ◌+◌, ◌-◌, ◌*◌, ◌/◌, ◌%◌, ◌^◌, ◌≤◌, ◌<◌}
use native.Mathlib.Omega.{arith}
use native.Mathlib.Nat.{zero-add}
use lib.ListN.{length, take, drop, length-drop, take-append-drop, drop_of_length-le}
use lib.Seq.{drop-drop, get_or-take, get_or-drop}
use lib.IntN.{ℤ, pos, negsuc}
use lib.Dec.{eqb, leb}
use borrow.Author.Tests.{leb-true, eq-eqb, le-leb}
use Rattle.refusal.specs.Every.{Every, Bytes}
use Rattle.refusal.specs.Answer.{pick, given, absent}
use Rattle.refusal.specs.Each.{joined, all}
use Rattle.laws.proofs.Same.{same_self}
use Rattle.laws.proofs.Tests.{by_test, pick_all}
use Rattle.laws.proofs.Parts.{length_part, every_take, every_drop}
use Rattle.wire_bytes.specs.Bytes.{bytes_of}
use Rattle.wire.proofs.Round.{be_small}
use Rattle.diag_rules.specs.Mask.{byte_at, routers_of, routes_fit}
use Rattle.diag_rules.proofs.Mask.{fit_length}
use Rattle.diag_values.specs.Values.{number_at, leader_of, counters_of}
use Rattle.connectivity.specs.Connectivity.{priority_of, buffer_of, datagrams_of, connectivity_of}
use Rattle.route64.specs.Routes.{mask_of, route_rows, route_of}
use Rattle.route64.proofs.Within.{RouteWithin, rows_are, route_within, route_count}
use Rattle.route64.specs.declared.RouteDataEntry.{RouteDataEntry}
use Rattle.diag_rows.specs.Rows.{listed, child_rows, addresses, address_list_of}
use Rattle.diag_rows.proofs.Within.{child_count, ChildWithin, child_within}
use Rattle.diag_rows.specs.declared.ChildTableEntry.{ChildTableEntry}
use Rattle.value_writing.specs.Encode.{late_bytes, connectivity_bytes, route64_bytes, children_bytes, ListValue, list_bytes}
use Rattle.value_writing.specs.Fits.{Under, Words, priority_fits, late_fits, connectivity_fits, route_row_fits, mask_agrees, route64_fits, child_fits, list_fits}
use Rattle.value_writing.proofs.Round.{route_length, routers_same, children_size, list_length}

-- ---- numbers are as wide as their bytes
pub number_small : (n at : ℕ) (v : List ℕ) → at + n ≤ length v → Bytes v → number_at n at v < 256 ^ n
number_small n at v h b =
    be_small n (take n (drop at v)) (length_part v at n h) (every_take (λ (x : ℕ). x < 256) n (drop at v) (every_drop (λ (x : ℕ). x < 256) at v b))

-- ---- tests that every element passes
all_by : {A : Type 0} (P : A → Type 0) (f : A → Bool) (xs : List A) → ((x : A) → P x → f x ≡ true) → Every P xs → all f xs ≡ true
unfolding all
all_by P f [] h e = refl
all_by P f (x ∷ xs) h e = rw (h x e.0) (all_by P f xs h e.1)

-- ---- 4, Connectivity
priority_fits_lem : (b : ℕ) → priority_fits (priority_of b) ≡ true
unfolding priority_fits priority_of
priority_fits_lem b =
    pick_all (λ (z : ℤ). priority_fits z ≡ true) (eqb (b / 64) 1) (pos 1) _ (λ e. refl)
    (λ e. pick_all (λ (z : ℤ). priority_fits z ≡ true) (eqb (b / 64) 0) (pos 0) _ (λ f. refl)
    (λ f. pick_all (λ (z : ℤ). priority_fits z ≡ true) (eqb (b / 64) 3) (negsuc 0) (negsuc 1) (λ g. refl) (λ g. refl)))

late_length : (b : Bool) (x y : ℕ) → length (late_bytes (pick b (given x) absent) (pick b (given y) absent)) ≡ pick b 3 0
unfolding late_bytes bytes_of
late_length true x y = refl
late_length false x y = refl

module _ (v : List ℕ) where
  pub connectivity_fits_lem : connectivity_fits (connectivity_of v) ≡ true
  unfolding connectivity_fits buffer_of datagrams_of late_fits
  connectivity_fits_lem = rw (priority_fits_lem (byte_at v 0)) (by_test (leb 10 (length v)) (λ e. rw e) (λ e. rw e))

  pub buffer_under : Bytes v → Under 65536 (buffer_of v)
  unfolding buffer_of
  buffer_under b = pick_all (Under 65536) (leb 10 (length v)) (given (number_at 2 7 v)) absent (λ e. number_small 2 7 v (omega (arith, leb-true 10 (length v) e)) b) (λ e. tt)

  pub connectivity_length : 7 ≤ length v → length (connectivity_bytes (connectivity_of v)) ≤ length v
  unfolding connectivity_bytes buffer_of datagrams_of
  connectivity_length h =
      let n = late_length (leb 10 (length v)) (number_at 2 7 v) (byte_at v 9) in
      by_test (leb 10 (length v))
      (λ e. let k = n ∙ ap (λ (b : Bool). pick b 3 0) e in omega (arith, leb-true 10 (length v) e))
      (λ e. let k = n ∙ ap (λ (b : Bool). pick b 3 0) e in omega arith)

-- ---- 5, Route64
module _ (v : List ℕ) (fit : routes_fit v ≡ true) where
  pub mask_length : length (route_of v).mask ≡ 8
  mask_length = length_part v 1 8 (omega (arith, fit_length v fit))

  mask_says : routers_of (0 ∷ mask_of v) ≡ routers_of v
  unfolding routers_of
  mask_says =
      routers_same 64 0 (0 ∷ mask_of v) v (omega arith)
      (λ j l. let z : 1 + j ≡ suc j = omega arith in rw z (get_or-take 8 (drop 1 v) j 0 l ∙ get_or-drop 1 v j 0 ∙ rw z))

  pub route_writes : route64_fits (route_of v) ≡ true
  unfolding route64_fits mask_agrees
  route_writes =
      rw (rows_are v fit, mask_says, same_self (routers_of v))
      (all_by RouteWithin route_row_fits (route_rows v) row_fits (route_within v))
    where
      row_fits : (r : RouteDataEntry) → RouteWithin r → route_row_fits r ≡ true
      row_fits r w =
          rw (le-leb r.outgoing_link_quality 3 (omega (arith, w.1)), le-leb r.incoming_link_quality 3 (omega (arith, w.2)))
          (le-leb r.route_cost 15 (omega (arith, w.3)))

  pub route_size : length (route64_bytes (route_of v)) ≡ length v
  route_size = omega (arith, route_length (route_of v) mask_length route_writes, route_count v fit, fit_length v fit)

-- ---- 6 and 9
pub leader_small : (v : List ℕ) → length v ≡ 8 → Bytes v → (leader_of v).partition_id < 4294967296
leader_small v h b = number_small 4 0 v (omega arith) b

pub counters_small : (v : List ℕ) → length v ≡ 36 → Bytes v → Words (counters_of v)
counters_small v h b =
    (word 0 (omega arith), (word 4 (omega arith), (word 8 (omega arith), (word 12 (omega arith), (word 16 (omega arith), (word 20 (omega arith), (word 24 (omega arith), (word 28 (omega arith), (word 32 (omega arith), tt)))))))))
  where
    word : (at : ℕ) → at ≤ 32 → number_at 4 at v < 4294967296
    word at l = number_small 4 at v (omega arith) b

-- ---- 16, child rows
pub children_fit : (v : List ℕ) → all child_fits (child_rows v) ≡ true
children_fit v = all_by ChildWithin child_fits (child_rows v) child_fits_lem (child_within v)
  where
    child_fits_lem : (c : ChildTableEntry) → ChildWithin c → child_fits c ≡ true
    child_fits_lem c w =
        rw (le-leb c.timeout_exponent 31 (omega (arith, w.0)), le-leb c.incoming_link_quality 3 (omega (arith, w.1)))
        (le-leb c.child_id 511 (omega (arith, w.2)))

pub children_length : (v : List ℕ) → length (children_bytes (child_rows v)) ≤ length v
children_length v = omega (arith, children_size (child_rows v), child_count v)

-- ---- 8, addresses, one after the other
listed_same : {A : Type 0} (f g : ℕ → A) (n : ℕ) → ((k : ℕ) → f k ≡ g k) → listed f n ≡ listed g n
unfolding listed
listed_same f g zero h = refl
listed_same f g (suc n) h = ap (λ (x : _). x ∷ listed (λ k. f (suc k)) n) (h 0) ∙ ap (λ (l : List _). g 0 ∷ l) (listed_same (λ k. f (suc k)) (λ k. g (suc k)) n (λ k. h (suc k)))

abbrev itself : List ℕ → List ℕ
itself x = x

addresses_from : (n at : ℕ) (v : List ℕ) → length v ≡ at + n * 16 → joined itself (listed (λ k. take 16 (drop (at + k * 16) v)) n) ≡ drop at v
unfolding listed joined
addresses_from zero at v h = sym (drop_of_length-le v {i = at} (omega arith))
addresses_from (suc n) at v h =
    let z : at + 0 ≡ at = omega arith in
    let more : (k : ℕ) → take 16 (drop (at + suc k * 16) v) ≡ take 16 (drop (at + 16 + k * 16) v) =
    λ k. let q : at + suc k * 16 ≡ at + 16 + k * 16 = omega arith in ap (λ (m : ℕ). take 16 (drop m v)) q in
    let rest = ap (joined itself) (listed_same (λ k. take 16 (drop (at + suc k * 16) v)) (λ k. take 16 (drop (at + 16 + k * 16) v)) n more) ∙ addresses_from n (at + 16) v (omega arith) in
    ap (λ (m : ℕ). take 16 (drop m v) ++ joined itself (listed (λ k. take 16 (drop (at + suc k * 16) v)) n)) z
    ∙ ap (λ (l : List ℕ). take 16 (drop at v) ++ l) (rest ∙ sym (drop-drop 16 at v)) ∙ take-append-drop 16 (drop at v)

pub addresses_back : (v : List ℕ) → length v % 16 ≡ 0 → joined itself (addresses v) ≡ v
unfolding addresses
addresses_back v h =
    let same : (k : ℕ) → take 16 (drop (k * 16) v) ≡ take 16 (drop (0 + k * 16) v) = λ k. ap (λ (m : ℕ). take 16 (drop m v)) (sym (zero-add (k * 16))) in
    ap (joined itself) (listed_same (λ k. take 16 (drop (k * 16) v)) (λ k. take 16 (drop (0 + k * 16) v)) (length v / 16) same)
    ∙ addresses_from (length v / 16) 0 v (omega arith)

-- ---- 30, a child's addresses, as they are written again
abbrev pub list_again : List ℕ → ListValue
list_again v = record { rloc16 = (address_list_of v).rloc16; child_id = (address_list_of v).child_id; addresses = joined itself (addresses (drop 2 v)) }

module _ (v : List ℕ) (two : 2 ≤ length v) (whole : (length v - 2) % 16 ≡ 0) where
  pub list_whole : joined itself (addresses (drop 2 v)) ≡ drop 2 v
  list_whole = addresses_back (drop 2 v) (rw (length-drop 2 v) whole)

  pub list_fits_lem : list_fits (list_again v) ≡ true
  list_fits_lem = rw (eq-eqb (number_at 2 0 v % 512) (number_at 2 0 v % 512) refl, list_whole) (eq-eqb (length (drop 2 v) % 16) 0 (rw (length-drop 2 v) whole))

  pub list_size : length (list_bytes (list_again v)) ≡ length v
  list_size = omega (arith, list_length (list_again v), ap length list_whole, length-drop 2 v)

  pub list_rloc : Bytes v → (list_again v).rloc16 < 65536
  list_rloc b = number_small 2 0 v (omega arith) b
