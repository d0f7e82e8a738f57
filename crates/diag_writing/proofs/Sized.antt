-- How many bytes and entries a record takes, by the numbers that are known.
-- Assumes nothing.
use mathlib.Core.Path.{◌≡◌, refl, ap, ◌∙◌}
use mathlib.Core.Bool.{true}
use mathlib.Core.List.{List, [], ◌∷◌, map}
use Prim.Native.Nat.{ℕ, ◌+◌, ◌*◌, ◌≤◌}
use native.Mathlib.Omega.{arith}
use lib.ListN.{length, take, length-append, length-map}
use lib.Seq.{length-take-le}
use borrow.Author.Tests.{leb-true, le-leb, eqb-true}
use Rattle.refusal.specs.Sizes.{most_value}
use Rattle.refusal.specs.Answer.{Answer, given, absent, refused, on_given}
use Rattle.refusal.specs.Every.{Every}
use Rattle.refusal.specs.Results.{option_of}
use Rattle.laws.proofs.Parts.{length_part}
use Rattle.wire_bytes.specs.Bytes.{bytes_of}
use Rattle.tlv_writing.specs.Encode.{encode, size_of, entry_size, encode_all}
use Rattle.tlv_writing.proofs.Encodes.{length_encode}
use Rattle.tlv_writing.proofs.Several.{encode_append}
use Rattle.connectivity.specs.Connectivity.{ConnectivityValue}
use Rattle.route64.specs.declared.Route64.{Route64}
use Rattle.diag_rows.specs.declared.Part.{Part}
use Rattle.diag_rows.specs.declared.ChildTableEntry.{ChildTableEntry}
use Rattle.diag_rows.specs.declared.ChildIpv6AddrInfo.{ChildIpv6AddrInfo}
use Rattle.diag.specs.Answers.{opt_connectivity}
use Rattle.diag.specs.declared.NetDiagData.{NetDiagData}
use Rattle.network_writing.specs.Encode.{network_bytes}
use Rattle.value_writing.specs.Encode.{mode_bytes, late_bytes, connectivity_bytes, leader_bytes, counters_bytes, route_byte, route64_bytes, children_bytes, ListValue, list_bytes}
use Rattle.value_writing.proofs.Round as back
use Rattle.record_writing.specs.Values.{Field, fields, one_byte, entry_for, present, list_content, entries_of}
use Rattle.record_writing.specs.Fits.{passes}
use Rattle.record_writing.specs.Lent.{Lent, part_bytes, route_used, opt_counts, network_of, children_of, list_of, values_of}
use Rattle.record_writing.specs.Written.{short_part, lists_of, routes_counted, children_agree}
use Rattle.diag_writing.specs.Pieces.{ListLies}
use Rattle.writing_plans.specs.Tests.{inside_by}
use Rattle.writing_plans.specs.Sizes.{one, part_size, connectivity_size, route_size, numbers_size, parts_size, fixed_size, numbers_count, parts_count, fixed_count}
use Rattle.diag_writing.proofs.Agreed.{part_length}
use Rattle.diag_writing.proofs.Folds.{lists_size}

-- ---- fields, one by one

-- how many bytes a field takes
unfoldable pub field_size : Answer (List ℕ) → ℕ
field_size (given v) = size_of (length v)
field_size absent = 0
field_size (refused n p i) = 0

unfoldable sizes_of : List Field → ℕ
sizes_of [] = 0
sizes_of (f ∷ fs) = field_size f.value + sizes_of fs

unfoldable count_of : List Field → ℕ
count_of [] = 0
count_of (f ∷ fs) = one f.value + count_of fs

entry_size_lem : (ty : ℕ) (a : Answer (List ℕ)) → length (encode_all (entry_for ty a)) ≡ field_size a
unfolding entry_for field_size encode_all
entry_size_lem ty (given v) = length-append (encode ty v) [] ∙ omega (arith, length_encode ty v)
entry_size_lem ty absent = refl
entry_size_lem ty (refused n p i) = refl

fields_size : (fs : List Field) → length (encode_all (present fs)) ≡ sizes_of fs
unfolding present sizes_of encode_all
fields_size [] = refl
fields_size (f ∷ fs) =
    ap length (encode_append (entry_for f.ty f.value) (present fs)) ∙ length-append (encode_all (entry_for f.ty f.value)) (encode_all (present fs))
    ∙ omega (arith, entry_size_lem f.ty f.value, fields_size fs)

entry_count : (ty : ℕ) (a : Answer (List ℕ)) → length (entry_for ty a) ≡ one a
unfolding entry_for one
entry_count ty (given v) = refl
entry_count ty absent = refl
entry_count ty (refused n p i) = refl

fields_count : (fs : List Field) → length (present fs) ≡ count_of fs
unfolding present count_of
fields_count [] = refl
fields_count (f ∷ fs) =
    length-append (entry_for f.ty f.value) (present fs) ∙ omega (arith, entry_count f.ty f.value, fields_count fs)

one_on : {A B : Type 0} (f : A → B) (a : Answer A) → one (on_given f a) ≡ one a
unfolding one
one_on f (given x) = refl
one_on f absent = refl
one_on f (refused n p i) = refl

-- a value of so many bytes, whatever it says
number_size : {A : Type 0} (f : A → List ℕ) (k n : ℕ) → ((x : A) → length (f x) ≡ k) → size_of k ≡ n → (a : Answer A) → field_size (on_given f a) ≡ one a * n
unfolding field_size one
number_size f k n size e (given x) = ap size_of (size x) ∙ omega arith
number_size f k n size e absent = omega arith
number_size f k n size e (refused m p i) = omega arith

size_entry : (n : ℕ) → n ≤ most_value → size_of n ≡ entry_size n
unfolding entry_size
size_entry n h = rw (le-leb n most_value h)

part_size_lem : (s : List ℕ) (a : Answer Part) → passes (inside_by (length s)) a ≡ true → passes short_part a ≡ true → field_size (on_given (part_bytes s) a) ≡ part_size a
unfolding passes field_size part_size
part_size_lem s (given q) h k = ap size_of (part_length s q h) ∙ size_entry q.len (leb-true q.len most_value k)
part_size_lem s absent h k = refl
part_size_lem s (refused n p i) h k = refl

late_short : (b d : Answer ℕ) → length (late_bytes b d) ≤ 3
unfolding late_bytes bytes_of
late_short (given b) (given d) = omega arith
late_short (given b) absent = omega arith
late_short (given b) (refused n p i) = omega arith
late_short absent d = omega arith
late_short (refused n p i) d = omega arith

connectivity_size_lem : (a : Answer ConnectivityValue) → field_size (on_given connectivity_bytes a) ≡ connectivity_size a
unfolding field_size connectivity_size connectivity_bytes
connectivity_size_lem (given c) = size_entry (length (connectivity_bytes c)) (let h = late_short c.buffer_size c.datagram_count in omega arith)
connectivity_size_lem absent = refl
connectivity_size_lem (refused n p i) = refl

-- a mask of 8 bytes, and 64 places for routes
abbrev pub Sixty : Route64 → Type 0
Sixty t = (length t.mask ≡ 8) × (length t.route_data ≡ 64)

route_length : (t : Route64) → Sixty t → t.count ≤ 64 → length (route64_bytes (route_used t)) ≡ 9 + t.count
unfolding route64_bytes
route_length t w h =
    let m = length-append t.mask (map route_byte (take t.count t.route_data)) in
    let n = length-map (take t.count t.route_data) route_byte in
    let k = length-take-le t.count t.route_data (omega (arith, w.1)) in
    omega (arith, w.0)

route_size_lem : (t : Route64) (a : Answer Part) → Sixty t → passes (λ (q : Part). routes_counted t) a ≡ true
    → field_size (on_given route64_bytes (on_given (λ (q : Part). route_used t) a)) ≡ route_size a t
unfolding passes field_size route_size
route_size_lem t (given q) w h =
    let k : t.count ≤ 64 = omega (arith, leb-true t.count (length t.route_data) h, w.1) in
    rw (le-leb t.count 64 k) (ap size_of (route_length t w k) ∙ size_entry (9 + t.count) (omega arith))
route_size_lem t absent w h = refl
route_size_lem t (refused n p i) w h = refl

children_size : (cs : List ChildTableEntry) (a : Answer Part) → passes (children_agree cs) a ≡ true → passes short_part a ≡ true
    → field_size (on_given children_bytes (on_given (children_of cs) a)) ≡ part_size a
unfolding passes field_size part_size
children_size cs (given q) h k =
    ap size_of (back.children_size (children_of cs q) ∙ eqb-true (length (children_of cs q) * 3) q.len h) ∙ size_entry q.len (leb-true q.len most_value k)
children_size cs absent h k = refl
children_size cs (refused n p i) h k = refl

-- ---- address lists
list_length : (v : ListValue) → length (list_bytes v) ≡ 2 + length v.addresses
unfolding list_bytes bytes_of
list_length v = omega arith

lists_size_lem : (s : List ℕ) (xs : List ChildIpv6AddrInfo) → Every (ListLies s) xs → length (encode_all (map list_content (map (list_of s) xs))) ≡ lists_size xs
unfolding encode_all lists_size
lists_size_lem s [] h = refl
lists_size_lem s (x ∷ xs) h =
    let v = list_bytes (list_of s x) in
    let p = list_length (list_of s x) in
    let q = length_part s x.start x.len h.0.0 in
    let e : length v ≡ 2 + x.len = omega arith in
    length-append (encode 30 v) (encode_all (map list_content (map (list_of s) xs)))
    ∙ omega (arith, length_encode 30 v ∙ ap size_of e ∙ size_entry (2 + x.len) h.0.1, lists_size_lem s xs h.1)

-- ---- all of them

-- what is known of a record that can be written
pub record Sound (r : NetDiagData) (l : Lent) : Type 0 where
  pub ext_mac_addr : passes (inside_by (length l.bytes)) (option_of r.ext_mac_addr) ≡ true
  pub addresses : passes (inside_by (length l.bytes)) (option_of r.addresses) ≡ true
  pub channel_pages : passes (inside_by (length l.bytes)) (option_of r.channel_pages) ≡ true
  pub type_list : passes (inside_by (length l.bytes)) (option_of r.type_list) ≡ true
  pub eui64 : passes (inside_by (length l.bytes)) (option_of r.eui64) ≡ true
  pub ext_mac_addr_short : passes short_part (option_of r.ext_mac_addr) ≡ true
  pub addresses_short : passes short_part (option_of r.addresses) ≡ true
  pub child_table_short : passes short_part (option_of r.child_table) ≡ true
  pub channel_pages_short : passes short_part (option_of r.channel_pages) ≡ true
  pub type_list_short : passes short_part (option_of r.type_list) ≡ true
  pub eui64_short : passes short_part (option_of r.eui64) ≡ true
  pub counted : passes (λ (q : Part). routes_counted l.route64) (option_of r.route64) ≡ true
  pub children : passes (children_agree l.children) (option_of r.child_table) ≡ true
  pub lists : Every (ListLies l.bytes) (lists_of r l)

two_long : (x : ℕ) → length (bytes_of 2 x) ≡ 2
unfolding bytes_of
two_long x = refl

four_long : (x : ℕ) → length (bytes_of 4 x) ≡ 4
unfolding bytes_of
four_long x = refl

abbrev network_field : NetDiagData → Lent → Answer (List ℕ)
network_field r l = on_given network_bytes (on_given (network_of l) (opt_counts r.network_data))

module _ (r : NetDiagData) (l : Lent) (k : Sound r l) (sixty : Sixty l.route64) where
  fixed_fields : sizes_of (fields (values_of r l)) ≡ fixed_size r l.route64 + field_size (network_field r l)
  unfolding sizes_of values_of fixed_size numbers_size parts_size size_of
  fixed_fields =
      let e0 = part_size_lem l.bytes (option_of r.ext_mac_addr) k.ext_mac_addr k.ext_mac_addr_short in
      let e1 = number_size (bytes_of 2) 2 4 two_long refl (option_of r.mac_addr) in
      let e2 = number_size mode_bytes 1 3 (λ x. refl) refl (option_of r.mode) in
      let e3 = number_size (bytes_of 4) 4 6 four_long refl (option_of r.timeout) in
      let e4 = connectivity_size_lem (opt_connectivity r.connectivity) in
      let e5 = route_size_lem l.route64 (option_of r.route64) sixty k.counted in
      let e6 = number_size leader_bytes 8 10 back.leader_size refl (option_of r.leader_data) in
      let e8 = part_size_lem l.bytes (option_of r.addresses) k.addresses k.addresses_short in
      let e9 = number_size counters_bytes 36 38 back.counters_size refl (option_of r.mac_counters) in
      let e14 = number_size one_byte 1 3 (λ x. refl) refl (option_of r.battery_level) in
      let e15 = number_size (bytes_of 2) 2 4 two_long refl (option_of r.supply_voltage) in
      let e16 = children_size l.children (option_of r.child_table) k.children k.child_table_short in
      let e17 = part_size_lem l.bytes (option_of r.channel_pages) k.channel_pages k.channel_pages_short in
      let e18 = part_size_lem l.bytes (option_of r.type_list) k.type_list k.type_list_short in
      let e23 = part_size_lem l.bytes (option_of r.eui64) k.eui64 k.eui64_short in
      rw (e0, e1, e2, e3, e4, e5, e6, e8, e9, e14, e15, e16, e17, e18, e23) (omega arith)

  pub whole_size : length (encode_all (entries_of (values_of r l))) ≡ fixed_size r l.route64 + (field_size (network_field r l) + lists_size (lists_of r l))
  unfolding entries_of values_of
  whole_size =
      let ls = map list_content (map (list_of l.bytes) (lists_of r l)) in
      ap length (encode_append (present (fields (values_of r l))) ls) ∙ length-append (encode_all (present (fields (values_of r l)))) (encode_all ls)
      ∙ omega (arith, fields_size (fields (values_of r l)), fixed_fields, lists_size_lem l.bytes (lists_of r l) k.lists)

module _ (r : NetDiagData) (l : Lent) where
  fixed_count_lem : count_of (fields (values_of r l)) ≡ fixed_count r
  unfolding count_of values_of fixed_count numbers_count parts_count
  fixed_count_lem =
      let e0 = one_on (part_bytes l.bytes) (option_of r.ext_mac_addr) in
      let e1 = one_on (bytes_of 2) (option_of r.mac_addr) in
      let e2 = one_on mode_bytes (option_of r.mode) in
      let e3 = one_on (bytes_of 4) (option_of r.timeout) in
      let e4 = one_on connectivity_bytes (opt_connectivity r.connectivity) in
      let e5 = one_on route64_bytes (on_given (λ (q : Part). route_used l.route64) (option_of r.route64)) ∙ one_on (λ (q : Part). route_used l.route64) (option_of r.route64) in
      let e6 = one_on leader_bytes (option_of r.leader_data) in
      let e7 = one_on network_bytes (on_given (network_of l) (opt_counts r.network_data)) ∙ one_on (network_of l) (opt_counts r.network_data) in
      let e8 = one_on (part_bytes l.bytes) (option_of r.addresses) in
      let e9 = one_on counters_bytes (option_of r.mac_counters) in
      let e14 = one_on one_byte (option_of r.battery_level) in
      let e15 = one_on (bytes_of 2) (option_of r.supply_voltage) in
      let e16 = one_on children_bytes (on_given (children_of l.children) (option_of r.child_table)) ∙ one_on (children_of l.children) (option_of r.child_table) in
      let e17 = one_on (part_bytes l.bytes) (option_of r.channel_pages) in
      let e18 = one_on (part_bytes l.bytes) (option_of r.type_list) in
      let e23 = one_on (part_bytes l.bytes) (option_of r.eui64) in
      rw (e0, e1, e2, e3, e4, e5, e6, e7, e8, e9, e14, e15, e16, e17, e18, e23) (omega arith)

  pub whole_count : length (entries_of (values_of r l)) ≡ fixed_count r + length (lists_of r l)
  unfolding entries_of values_of
  whole_count =
      let ms = map (list_of l.bytes) (lists_of r l) in
      let a = length-append (present (fields (values_of r l))) (map list_content ms) in
      let b = length-map ms list_content in
      let c = length-map (lists_of r l) (list_of l.bytes) in
      omega (arith, fields_count (fields (values_of r l)), fixed_count_lem)
