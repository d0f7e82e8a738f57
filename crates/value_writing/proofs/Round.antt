-- Document 02, One: "Reading what was written gives the record back", for each layout by itself: what was written says the record, and has the length of its
-- type.
-- Assumes nothing.
use mathlib.Core.Path.{◌≡◌, refl, sym, ap, ◌∙◌, subst}
use mathlib.Core.Bool.{Bool, true, false}
use mathlib.Core.List.{List, [], ◌∷◌, ◌++◌, map}
use Prim.Native.Nat.{ℕ, zero, suc, ◌+◌, ◌-◌, ◌*◌, ◌/◌, ◌%◌, ◌≤◌, ◌<◌}
use native.Mathlib.Omega.{arith}
use native.Mathlib.Nat.{div-add-mod', zero-add}
use lib.ListN.{length, get_or, take, drop, length-append, length-map, get_or-append}
use lib.Seq.{drop_at, take_at}
use lib.IntN.{ℤ, pos, negsuc}
use lib.Dec.{eqb, leb}
use borrow.Author.Tests.{leb-true, eqb-true, eq-eqb, le-leb}
use Rattle.refusal.specs.Answer.{pick, Answer, given, absent, refused}
use Rattle.refusal.specs.Each.{joined, all}
use Rattle.laws.proofs.Same.{same_true}
use Rattle.laws.proofs.Bits.{both, above}
use Rattle.laws.proofs.Stands.{Stands, stands_whole}
use Rattle.laws.proofs.Joined.{joined_length, row_stands}
use Rattle.wire_bytes.specs.Bytes.{bytes_of}
use Rattle.wire.specs.Be.{be}
use Rattle.wire.proofs.Round.{be_bytes}
use Rattle.diag_rules.specs.Mask.{byte_at, bit_of, assigned, routers, routers_of, routes_fit}
use Rattle.diag_values.specs.Values.{number_at, mode_of, leader_of, counters_of}
use Rattle.diag_values.proofs.Numbers.{two_spell}
use Rattle.connectivity.specs.Connectivity.{ConnectivityValue, priority_of, buffer_of, datagrams_of, connectivity_of}
use Rattle.route64.specs.Routes.{Route, route_row, rows_of, route_rows, route_of}
use Rattle.diag_rows.specs.Rows.{listed, child_at, child_rows, address_list_of}
use Rattle.diag_values.specs.declared.ModeData.{ModeData}
use Rattle.diag_values.specs.declared.LeaderData.{LeaderData}
use Rattle.diag_values.specs.declared.MacCounters.{MacCounters}
use Rattle.diag_rows.specs.declared.ChildTableEntry.{ChildTableEntry}
use Rattle.diag_rows.specs.declared.ChildIpv6AddrInfo.{ChildIpv6AddrInfo}
use Rattle.route64.specs.declared.RouteDataEntry.{RouteDataEntry}
use Rattle.value_writing.specs.Encode.{mode_byte, priority_bits, late_bytes, connectivity_bytes, leader_bytes, counters_bytes, route_byte, route64_bytes, child_bits, child_bytes, children_bytes, ListValue, list_bytes}
use Rattle.value_writing.specs.Fits.{Under, Words, priority_fits, late_fits, connectivity_fits, route_row_fits, router, mask_agrees, route64_fits, child_fits, whole_addresses, list_fits}

-- ---- 2, mode
abbrev mode_from : Bool → Bool → Bool → ModeData
mode_from a b c = record { rx_on_when_idle = a; is_mtd = b; requires_full_network_data = c }

mode_by : (a b c : Bool) → mode_of (mode_byte (mode_from a b c)) ≡ mode_from a b c
mode_by true true true = refl
mode_by true true false = refl
mode_by true false true = refl
mode_by true false false = refl
mode_by false true true = refl
mode_by false true false = refl
mode_by false false true = refl
mode_by false false false = refl

pub mode_back : (m : ModeData) → mode_of (mode_byte m) ≡ m
mode_back m = mode_by m.rx_on_when_idle m.is_mtd m.requires_full_network_data

-- ---- 4, Connectivity
priority_back : (z : ℤ) → priority_fits z ≡ true → priority_of (priority_bits z * 64) ≡ z
unfolding priority_fits priority_bits priority_of
priority_back (pos zero) h = refl
priority_back (pos (suc zero)) h = refl
priority_back (pos (suc (suc n))) h = absurd (omega (arith, leb-true (suc (suc n)) 1 h))
priority_back (negsuc zero) h = refl
priority_back (negsuc (suc zero)) h = refl
priority_back (negsuc (suc (suc n))) h = absurd (omega (arith, leb-true (suc (suc n)) 1 h))

abbrev connect : ℤ → (a b c d e f : ℕ) → Answer ℕ → Answer ℕ → ConnectivityValue
connect z a b c d e f x y = record {
  parent_priority = z;
  link_quality3 = a;
  link_quality2 = b;
  link_quality1 = c;
  leader_cost = d;
  id_sequence = e;
  active_routers = f;
  buffer_size = x;
  datagram_count = y;
}

module _ (p : ℤ) (a b c d e f : ℕ) (fits : priority_fits p ≡ true) where
  late_by : (x y : Answer ℕ) → Under 65536 x → late_fits x y ≡ true → connectivity_of (connectivity_bytes (connect p a b c d e f x y)) ≡ connect p a b c d e f x y
  unfolding connectivity_bytes late_bytes late_fits buffer_of datagrams_of bytes_of
  late_by (given x) (given y) h g = ap (λ (z : ℤ). connect z a b c d e f (given (be (bytes_of 2 x))) (given y)) (priority_back p fits) ∙ ap (λ (n : ℕ). connect p a b c d e f (given n) (given y)) (be_bytes 2 x (omega arith))
  late_by absent absent h g = ap (λ (z : ℤ). connect z a b c d e f absent absent) (priority_back p fits)
  late_by (given x) absent h g = absurd (let z : ◌≡◌ {A = ℕ} 0 1 = cc in omega arith)
  late_by (given x) (refused n q i) h g = absurd (let z : ◌≡◌ {A = ℕ} 0 1 = cc in omega arith)
  late_by absent (given y) h g = absurd (let z : ◌≡◌ {A = ℕ} 0 1 = cc in omega arith)
  late_by absent (refused n q i) h g = absurd (let z : ◌≡◌ {A = ℕ} 0 1 = cc in omega arith)
  late_by (refused n q i) y h g = absurd (let z : ◌≡◌ {A = ℕ} 0 1 = cc in omega arith)

pub connectivity_back : (c : ConnectivityValue) → connectivity_fits c ≡ true → Under 65536 c.buffer_size → connectivity_of (connectivity_bytes c) ≡ c
unfolding connectivity_fits
connectivity_back c h k =
    let b = both (priority_fits c.parent_priority) (late_fits c.buffer_size c.datagram_count) h in
    late_by c.parent_priority c.link_quality3 c.link_quality2 c.link_quality1 c.leader_cost c.id_sequence c.active_routers b.0 c.buffer_size c.datagram_count k b.1

pub connectivity_size : (c : ConnectivityValue) → 7 ≤ length (connectivity_bytes c)
unfolding connectivity_bytes
connectivity_size c = omega arith

-- ---- 6, Leader Data
pub leader_back : (l : LeaderData) → l.partition_id < 4294967296 → leader_of (leader_bytes l) ≡ l
unfolding leader_bytes bytes_of
leader_back l h = rw (be_bytes 4 l.partition_id (omega arith))

pub leader_size : (l : LeaderData) → length (leader_bytes l) ≡ 8
unfolding leader_bytes bytes_of
leader_size l = refl

-- ---- 9, MAC counters
pub counters_size : (c : MacCounters) → length (counters_bytes c) ≡ 36
unfolding counters_bytes joined bytes_of
counters_size c = refl

word_back : (x : ℕ) → x < 4294967296 → be (bytes_of 4 x) ≡ x
word_back x h = be_bytes 4 x (omega arith)

abbrev counters : (a b c d e f g h i : ℕ) → MacCounters
counters a b c d e f g h i = record {
  if_in_unknown_protos = a;
  if_in_errors = b;
  if_out_errors = c;
  if_in_ucast_pkts = d;
  if_in_broadcast_pkts = e;
  if_in_discards = f;
  if_out_ucast_pkts = g;
  if_out_broadcast_pkts = h;
  if_out_discards = i;
}

pub counters_back : (c : MacCounters) → Words c → counters_of (counters_bytes c) ≡ c
unfolding counters_bytes joined bytes_of
counters_back c w =
    by_nine (word_back _ w.0) (word_back _ w.1.0) (word_back _ w.1.1.0) (word_back _ w.1.1.1.0) (word_back _ w.1.1.1.1.0) (word_back _ w.1.1.1.1.1.0)
    (word_back _ w.1.1.1.1.1.1.0) (word_back _ w.1.1.1.1.1.1.1.0) (word_back _ w.1.1.1.1.1.1.1.1.0)
  where
    by_nine : {a b c d e f g h i a' b' c' d' e' f' g' h' i' : ℕ} → a ≡ a' → b ≡ b' → c ≡ c' → d ≡ d' → e ≡ e' → f ≡ f' → g ≡ g' → h ≡ h' → i ≡ i'
        → counters a b c d e f g h i ≡ counters a' b' c' d' e' f' g' h' i'
    by_nine p q r s t u v x y = cc

-- ---- 16, child rows

pub child_size : (c : ChildTableEntry) → length (child_bytes c) ≡ 3
unfolding child_bytes
child_size c = refl

-- a list that is made by a function, element by element
listed_is : {A : Type 0} (xs : List A) (f : ℕ → A) (d : A) → ((k : ℕ) → k < length xs → f k ≡ get_or xs k d) → listed f (length xs) ≡ xs
unfolding listed
listed_is [] f d h = refl
listed_is (x ∷ xs) f d h =
    ap (λ (y : _). y ∷ listed (λ k. f (suc k)) (length xs)) (h 0 (omega arith)) ∙ ap (λ (l : List _). x ∷ l) (listed_is xs (λ k. f (suc k)) d (λ k l. h (suc k) (omega arith)))

child_back : (v : List ℕ) (c : ChildTableEntry) (at : ℕ) → at + 3 ≤ length v → child_fits c ≡ true → Stands v at (child_bytes c) → child_at v at ≡ c
unfolding child_bytes
child_back v c at l g h =
    let a = both (leb c.timeout_exponent 31) _ g in
    let b = both (leb c.incoming_link_quality 3) _ a.1 in
    let exponent = leb-true c.timeout_exponent 31 a.0 in
    let quality = leb-true c.incoming_link_quality 3 b.0 in
    let id = leb-true c.child_id 511 b.1 in
    let z : at ≡ at + 0 = omega arith in
    let upper : byte_at v at ≡ child_bits c / 256 = ap (byte_at v) z ∙ h 0 (omega arith) in
    let lower : byte_at v (at + 1) ≡ child_bits c % 256 = h 1 (omega arith) in
    let flags : byte_at v (at + 2) ≡ mode_byte c.mode = h 2 (omega arith) in
    let bits : number_at 2 at v ≡ child_bits c = sym (two_spell v at (omega arith)) ∙ rw (upper, lower) (div-add-mod' (child_bits c) 256) in
    let e : child_bits c / 2048 % 32 ≡ c.timeout_exponent = exponent_of c.timeout_exponent c.incoming_link_quality c.child_id exponent quality id in
    let q : child_bits c / 512 % 4 ≡ c.incoming_link_quality = quality_of c.timeout_exponent c.incoming_link_quality c.child_id quality id in
    let i : child_bits c % 512 ≡ c.child_id = id_of c.timeout_exponent c.incoming_link_quality c.child_id id in
    rw (bits, flags) (rw (e, q, i, mode_back c.mode))
  where
    exponent_of : (x y z : ℕ) → x ≤ 31 → y ≤ 3 → z ≤ 511 → (x % 32 * 2048 + y % 4 * 512 + z % 512) / 2048 % 32 ≡ x
    exponent_of x y z a b c = ap (λ (n : ℕ). n % 32) (above 2048 (x % 32 * 2048 + y % 4 * 512 + z % 512) (x % 32) (y % 4 * 512 + z % 512) (omega arith) (omega arith)) ∙ omega arith

    quality_of : (x y z : ℕ) → y ≤ 3 → z ≤ 511 → (x % 32 * 2048 + y % 4 * 512 + z % 512) / 512 % 4 ≡ y
    quality_of x y z b c = ap (λ (n : ℕ). n % 4) (above 512 (x % 32 * 2048 + y % 4 * 512 + z % 512) (x % 32 * 4 + y % 4) (z % 512) (omega arith) (omega arith)) ∙ omega arith

    id_of : (x y z : ℕ) → z ≤ 511 → (x % 32 * 2048 + y % 4 * 512 + z % 512) % 512 ≡ z
    id_of x y z c = omega arith

abbrev no_child : ChildTableEntry
no_child = record { timeout_exponent = 0; incoming_link_quality = 0; child_id = 0; mode = mode_from false false false }

pub children_size : (cs : List ChildTableEntry) → length (children_bytes cs) ≡ length cs * 3
unfolding children_bytes
children_size cs = joined_length 3 child_bytes child_size cs

every_at : (cs : List ChildTableEntry) (k : ℕ) → k < length cs → all child_fits cs ≡ true → child_fits (get_or cs k no_child) ≡ true
unfolding all
every_at [] k l g = absurd (omega arith)
every_at (c ∷ cs) zero l g = (both (child_fits c) (all child_fits cs) g).0
every_at (c ∷ cs) (suc k) l g = every_at cs k (omega arith) (both (child_fits c) (all child_fits cs) g).1

row_back : (cs : List ChildTableEntry) (k : ℕ) → k < length cs → all child_fits cs ≡ true → child_at (children_bytes cs) (k * 3) ≡ get_or cs k no_child
unfolding children_bytes
row_back cs k l g =
    let n = children_size cs in
    let here = row_stands 3 child_bytes child_size (children_bytes cs) no_child cs 0 k l (stands_whole (children_bytes cs)) in
    child_back (children_bytes cs) (get_or cs k no_child) (k * 3) (omega arith) (every_at cs k l g) (subst (λ (a : ℕ). Stands (children_bytes cs) a (child_bytes (get_or cs k no_child))) (zero-add (k * 3)) here)

pub children_back : (cs : List ChildTableEntry) → all child_fits cs ≡ true → child_rows (children_bytes cs) ≡ cs
unfolding child_rows
children_back cs g =
    let n = children_size cs in
    let m : length (children_bytes cs) / 3 ≡ length cs = omega arith in
    rw m (listed_is cs (λ k. child_at (children_bytes cs) (k * 3)) no_child (λ k l. row_back cs k l g))

-- ---- 5, Route64

pub routers_same : (n k : ℕ) (v w : List ℕ) → k + n ≤ 64 → ((j : ℕ) → j < 8 → byte_at v (1 + j) ≡ byte_at w (1 + j)) → routers n k v ≡ routers n k w
unfolding routers
routers_same zero k v w l h = refl
routers_same (suc n) k v w l h =
    ap (λ (b : ℕ). pick (bit_of b k) (k ∷ routers n (suc k) v) (routers n (suc k) v)) (h (k / 8) (omega arith))
    ∙ ap (λ (x : List ℕ). pick (assigned w k) (k ∷ x) x) (routers_same n (suc k) v w (omega arith) h)

row_of : (r : RouteDataEntry) → route_row_fits r ≡ true → route_row (router r) (route_byte r) ≡ r
row_of r g =
    let a = both (leb r.outgoing_link_quality 3) _ g in
    let b = both (leb r.incoming_link_quality 3) _ a.1 in
    let x = out_of r.outgoing_link_quality r.incoming_link_quality r.route_cost (leb-true r.outgoing_link_quality 3 a.0) (leb-true r.incoming_link_quality 3 b.0) (leb-true r.route_cost 15 b.1) in
    let y = in_of r.outgoing_link_quality r.incoming_link_quality r.route_cost (leb-true r.incoming_link_quality 3 b.0) (leb-true r.route_cost 15 b.1) in
    let z = cost_of r.outgoing_link_quality r.incoming_link_quality r.route_cost (leb-true r.route_cost 15 b.1) in
    rw (x, y, z)
  where
    out_of : (x y z : ℕ) → x ≤ 3 → y ≤ 3 → z ≤ 15 → (x % 4 * 64 + y % 4 * 16 + z % 16) / 64 % 4 ≡ x
    out_of x y z a b c = ap (λ (n : ℕ). n % 4) (above 64 (x % 4 * 64 + y % 4 * 16 + z % 16) (x % 4) (y % 4 * 16 + z % 16) (omega arith) (omega arith)) ∙ omega arith

    in_of : (x y z : ℕ) → y ≤ 3 → z ≤ 15 → (x % 4 * 64 + y % 4 * 16 + z % 16) / 16 % 4 ≡ y
    in_of x y z b c = ap (λ (n : ℕ). n % 4) (above 16 (x % 4 * 64 + y % 4 * 16 + z % 16) (x % 4 * 4 + y % 4) (z % 16) (omega arith) (omega arith)) ∙ omega arith

    cost_of : (x y z : ℕ) → z ≤ 15 → (x % 4 * 64 + y % 4 * 16 + z % 16) % 16 ≡ z
    cost_of x y z c = omega arith

rows_of_lem : (rs : List RouteDataEntry) → all route_row_fits rs ≡ true → rows_of (map router rs) (map route_byte rs) ≡ rs
unfolding rows_of all
rows_of_lem [] g = refl
rows_of_lem (r ∷ rs) g =
    let b = both (route_row_fits r) (all route_row_fits rs) g in
    ap (λ (x : RouteDataEntry). x ∷ rows_of (map router rs) (map route_byte rs)) (row_of r b.0) ∙ ap (λ (l : List RouteDataEntry). r ∷ l) (rows_of_lem rs b.1)

module _ (r : Route) (whole : length r.mask ≡ 8) (g : route64_fits r ≡ true) where
  tests : (mask_agrees r ≡ true) × (all route_row_fits r.rows ≡ true)
  unfolding route64_fits
  tests = both (mask_agrees r) (all route_row_fits r.rows) g

  mask_routers : routers_of (route64_bytes r) ≡ routers_of (0 ∷ r.mask)
  unfolding routers_of route64_bytes
  mask_routers =
      routers_same 64 0 (r.sequence ∷ (r.mask ++ map route_byte r.rows)) (0 ∷ r.mask) (omega arith)
      (λ j l.
      let z : 1 + j ≡ suc j = omega arith in
      rw z (get_or-append r.mask (map route_byte r.rows) 0 j (omega arith)))

  routers_are : routers_of (route64_bytes r) ≡ map router r.rows
  unfolding mask_agrees
  routers_are = mask_routers ∙ sym (same_true (map router r.rows) (routers_of (0 ∷ r.mask)) tests.0)

  rows_at : drop 9 (route64_bytes r) ≡ map route_byte r.rows
  unfolding route64_bytes
  rows_at = drop_at r.mask (map route_byte r.rows) 8 whole

  pub route_back : route_of (route64_bytes r) ≡ r
  unfolding route64_bytes route_rows
  route_back =
      let m : take 8 (r.mask ++ map route_byte r.rows) ≡ r.mask = take_at r.mask (map route_byte r.rows) 8 whole in
      let rows : rows_of (routers_of (route64_bytes r)) (drop 9 (route64_bytes r)) ≡ r.rows = rw (routers_are, rows_at) (rows_of_lem r.rows tests.1) in
      rw (m, rows)

  pub route_length : length (route64_bytes r) ≡ 9 + length r.rows
  unfolding route64_bytes
  route_length = omega (arith, length-append r.mask (map route_byte r.rows), length-map r.rows route_byte)

  pub route_fits : routes_fit (route64_bytes r) ≡ true
  unfolding routes_fit
  route_fits =
      let n = route_length in
      let k : length (routers_of (route64_bytes r)) ≡ length r.rows = ap length routers_are ∙ length-map r.rows router in
      rw (le-leb 9 (length (route64_bytes r)) (omega arith)) (eq-eqb (length (route64_bytes r)) (9 + length (routers_of (route64_bytes r))) (omega arith))

-- ---- 30, a child's addresses

abbrev pub list_says : ListValue → ChildIpv6AddrInfo
list_says l = record { rloc16 = l.rloc16; child_id = l.child_id; start = 2; len = length l.addresses }

module _ (l : ListValue) where
  pub list_length : length (list_bytes l) ≡ 2 + length l.addresses
  unfolding list_bytes bytes_of
  list_length = omega arith

  pub list_addresses : drop 2 (list_bytes l) ≡ l.addresses
  unfolding list_bytes bytes_of
  list_addresses = refl

  pub list_back : l.rloc16 < 65536 → list_fits l ≡ true → address_list_of (list_bytes l) ≡ list_says l
  unfolding list_bytes bytes_of
  list_back h g =
      let b = both (eqb l.child_id (l.rloc16 % 512)) (whole_addresses l.addresses) g in
      let rloc : be (bytes_of 2 l.rloc16) ≡ l.rloc16 = be_bytes 2 l.rloc16 (omega arith) in
      let id = eqb-true l.child_id (l.rloc16 % 512) b.0 in
      let n : length (list_bytes l) - 2 ≡ length l.addresses = omega (arith, list_length) in
      rw (rloc, ← id, n)
