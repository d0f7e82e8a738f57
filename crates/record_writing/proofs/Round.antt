-- Document 02, One: "Reading what was written gives the record back". This is `read_back`.
-- Assumes nothing.
use mathlib.Core.Path.{◌≡◌, refl, sym, ap, ◌∙◌, subst}
use mathlib.Core.Bool.{Bool, true, false}
use mathlib.Core.List.{List, [], ◌∷◌, ◌++◌, map}
use Prim.Native.Nat.{ℕ, ◌-◌, ◌%◌, ◌≤◌, ◌<◌}
use native.Mathlib.Omega.{arith}
use lib.ListN.{length, drop}
use lib.Dec.{eqb, ltb}
use borrow.Author.Tests.{ltb-false, le-ltb, le-leb, eq-eqb}
use Rattle.refusal.specs.Sizes.{most_bytes, most_entries, most_prefixes, most_has_routes}
use Rattle.refusal.specs.Every.{Every}
use Rattle.refusal.specs.Answer.{pick, Answer, given, absent, refused, on_given, then_do}
use Rattle.laws.proofs.Tests.{pick_all}
use Rattle.laws.proofs.Parts.{every_append, every_parts}
use Rattle.laws.proofs.Answers.{gives, on_on}
use Rattle.refusal.specs.Each.{all}
use Rattle.laws.proofs.Bits.{both}
use Rattle.wire_bytes.specs.Bytes.{bytes_of}
use Rattle.wire.specs.Be.{be}
use Rattle.wire.proofs.Round.{be_bytes}
use Rattle.tlv.specs.Entries.{Entry, Content, contents}
use Rattle.tlv.specs.Limits.{framed}
use Rattle.tlv_writing.specs.Encode.{encode_all, sized}
use Rattle.tlv_writing.proofs.Round.{parse_written}
use Rattle.diag_rules.specs.Rule.{keeps_rule}
use Rattle.diag_rules.proofs.Kept.{value_kept}
use Rattle.diag_values.specs.Values.{mode_value, leader_of, counters_of}
use Rattle.connectivity.specs.Connectivity.{ConnectivityValue, connectivity_of}
use Rattle.route64.specs.Routes.{Route, route_of}
use Rattle.diag_rows.specs.Rows.{child_rows, addresses, address_list_of}
use Rattle.network_data.specs.Decode.{Prefix, all_routes}
use Rattle.network_data.specs.Decode as N
use Rattle.diag_values.specs.declared.ModeData.{ModeData}
use Rattle.diag_values.specs.declared.LeaderData.{LeaderData}
use Rattle.diag_values.specs.declared.MacCounters.{MacCounters}
use Rattle.diag_rows.specs.declared.ChildTableEntry.{ChildTableEntry}
use Rattle.diag_rows.specs.declared.ChildIpv6AddrInfo.{ChildIpv6AddrInfo}
use Rattle.diag_entries.specs.Parts.{last, all_of, said, last_says}
use Rattle.diag_entries.specs.Checked.{entry_value, decoding, checked}
use Rattle.diag_entries.specs.Lists.{address_list, address_lists}
use Rattle.diag.specs.Diag.{NetworkDataValue, network_data_of, raw, byte_of, diag}
use Rattle.network_writing.specs.Encode.{network_bytes}
use Rattle.network_writing.specs.Fits.{network_fits, over_sizes}
use Rattle.network_writing.proofs.Round.{Small, contents_back, network_back}
use Rattle.value_writing.specs.Encode.{mode_bytes, connectivity_bytes, leader_bytes, counters_bytes, route64_bytes, children_bytes, ListValue, list_bytes}
use Rattle.value_writing.specs.Fits.{Under, Words, connectivity_fits, route64_fits, child_fits, whole_addresses, list_fits}
use Rattle.value_writing.proofs.Round.{mode_back, connectivity_back, connectivity_size, leader_back, leader_size, counters_back, counters_size, children_back, children_size, route_back, route_fits, list_length, list_addresses, list_says, list_back}
use Rattle.record_writing.specs.Values.{Values, Field, field, one_byte, fields, entry_for, present, list_content, entries_of}
use Rattle.record_writing.specs.Typed.{Given, Typed}
use Rattle.record_writing.specs.Fits.{passes, within_sizes, tables_fit, values_fit, eight_bytes}
use Rattle.record_writing.specs.Reading.{Listed, Reading, saying, unplaced, reading_of, reading, or_absent, listed, says}
use Rattle.record_writing.proofs.Last.{last_in, all_in, last_contents, all_contents, free, once, lookup, last_field, all_free, Reads, Readable, decoding_all, values_within}

-- ---- a value of each type is read

-- a field whose value, if there is one, is read where it is within the size
abbrev Good : Field → Type 0
Good f = (x : List ℕ) → f.value ≡ given x → length x ≤ most_bytes → Reads f.ty x

abbrev Within : List Content → Type 0
Within cs = Every (λ (c : Content). length c.value ≤ most_bytes) cs

one_reads : (t : ℕ) (a : Answer (List ℕ)) (cs : List Content) → ((x : List ℕ) → a ≡ given x → length x ≤ most_bytes → Reads t x) → (Within cs → Every Readable cs) → Within (entry_for t a ++ cs) → Every Readable (entry_for t a ++ cs)
unfolding entry_for
one_reads t (given x) cs g f w = (g x refl w.0, f w.1)
one_reads t absent cs g f w = f w
one_reads t (refused n p i) cs g f w = f w

fields_read : (fs : List Field) → Every Good fs → Within (present fs) → Every Readable (present fs)
unfolding present
fields_read [] g w = tt
fields_read (f ∷ fs) g w = one_reads f.ty f.value (present fs) g.0 (fields_read fs g.1) w

module _ (x : List ℕ) (small : length x ≤ most_bytes) where
  keeps : (t : ℕ) → eqb t 7 ≡ false → keeps_rule t x ≡ true → Reads t x
  unfolding entry_value
  keeps t h k = λ place. rw h (value_kept t place x (le-ltb most_bytes (length x) small) k)

-- what a field is made of
module _ {A : Type 0} (t : ℕ) (enc : A → List ℕ) (a : Answer A) where
  made : eqb t 7 ≡ false → ((y : A) → a ≡ given y → keeps_rule t (enc y) ≡ true) → Good (field t (on_given enc a))
  made h k x e small =
      let g = gives enc a x e in
      keeps x small t h (subst (λ (z : List ℕ). keeps_rule t z ≡ true) g.so (k g.one g.is))

plain : (t : ℕ) (a : Answer (List ℕ)) → eqb t 7 ≡ false → ((y : List ℕ) → a ≡ given y → keeps_rule t y ≡ true) → Good (field t a)
plain t a h k x e small = keeps x small t h (k x e)

passed : {A : Type 0} (f : A → Bool) (a : Answer A) (x : A) → passes f a ≡ true → a ≡ given x → f x ≡ true
unfolding passes
passed f (given y) x h e = let z : y ≡ x = cc in subst (λ (w : _). f w ≡ true) z h
passed f absent x h e = absurd (let z : ◌≡◌ {A = ℕ} 0 1 = cc in omega arith)
passed f (refused n p i) x h e = absurd (let z : ◌≡◌ {A = ℕ} 0 1 = cc in omega arith)

-- the tests of a record, one by one
pub record Fit (v : Values) : Type 0 where
  pub connectivity : passes connectivity_fits v.connectivity ≡ true
  pub route64 : passes route64_fits v.route64 ≡ true
  pub network_data : passes network_fits v.network_data ≡ true
  pub addresses : passes whole_addresses v.addresses ≡ true
  pub child_table : passes (all child_fits) v.child_table ≡ true
  pub eui64 : passes eight_bytes v.eui64 ≡ true
  pub child_lists : all list_fits v.child_lists ≡ true

pub fit : (v : Values) → values_fit v ≡ true → Fit v
unfolding values_fit
fit v h =
    let a = both (passes connectivity_fits v.connectivity) _ h in
    let b = both (passes route64_fits v.route64) _ a.1 in
    let c = both (passes network_fits v.network_data) _ b.1 in
    let d = both (passes whole_addresses v.addresses) _ c.1 in
    let e = both (passes (all child_fits) v.child_table) _ d.1 in
    let f = both (passes eight_bytes v.eui64) _ e.1 in
    record { connectivity = a.0; route64 = b.0; network_data = c.0; addresses = d.0; child_table = e.0; eui64 = f.0; child_lists = f.1 }

typed_is : {A : Type 0} (P : A → Type 0) (a : Answer A) (x : A) → Given P a → a ≡ given x → P x
typed_is P (given y) x h e = let z : y ≡ x = cc in subst P z h
typed_is P absent x h e = absurd (let z : ◌≡◌ {A = ℕ} 0 1 = cc in omega arith)
typed_is P (refused n p i) x h e = absurd (let z : ◌≡◌ {A = ℕ} 0 1 = cc in omega arith)

under_is : (m : ℕ) (a : Answer ℕ) (x : ℕ) → Under m a → a ≡ given x → x < m
under_is m (given y) x h e = let z : y ≡ x = cc in subst (λ (w : ℕ). w < m) z h
under_is m absent x h e = absurd (let z : ◌≡◌ {A = ℕ} 0 1 = cc in omega arith)
under_is m (refused n p i) x h e = absurd (let z : ◌≡◌ {A = ℕ} 0 1 = cc in omega arith)

module _ (v : Values) (f : Fit v) (t : Typed v) (small : (ps : List Prefix) → v.network_data ≡ given ps → Small ps) where
  network_good : Good (field 7 (on_given network_bytes v.network_data))
  unfolding entry_value
  network_good x e n =
      let g = gives network_bytes v.network_data x e in
      let ps = g.one in
      let fits = passed network_fits v.network_data ps f.network_data g.is in
      subst (λ (z : List ℕ). length z ≤ most_bytes → Reads 7 z) g.so (λ k place. rw (network_back ps fits place (small ps g.is) k)) n

  fields_good : Every Good (fields v)
  unfolding keeps_rule bytes_of
  fields_good = (
    plain 0 v.ext_mac_addr refl (λ y e. refl),
    (
      made 1 (bytes_of 2) v.mac_addr refl (λ y e. refl),
      (
        made 2 mode_bytes v.mode refl (λ y e. refl),
        (
          made 3 (bytes_of 4) v.timeout refl (λ y e. refl),
          (
            made 4 connectivity_bytes v.connectivity refl (λ y e. le-leb 7 _ (connectivity_size y)),
            (
              made 5 route64_bytes v.route64 refl (λ y e. route_fits y (typed_is _ v.route64 y t.route64 e) (passed route64_fits v.route64 y f.route64 e)),
              (
                made 6 leader_bytes v.leader_data refl (λ y e. eq-eqb _ 8 (leader_size y)),
                (
                  network_good,
                  (
                    plain 8 v.addresses refl (λ y e. passed whole_addresses v.addresses y f.addresses e),
                    (
                      made 9 counters_bytes v.mac_counters refl (λ y e. eq-eqb _ 36 (counters_size y)),
                      (
                        made 14 one_byte v.battery_level refl (λ y e. refl),
                        (
                          made 15 (bytes_of 2) v.supply_voltage refl (λ y e. refl),
                          (
                            made 16 children_bytes v.child_table refl (λ y e. let n = children_size y in eq-eqb (length (children_bytes y) % 3) 0 (omega arith)),
                            (
                              plain 17 v.channel_pages refl (λ y e. refl),
                              (
                                plain 18 v.type_list refl (λ y e. refl),
                                (
                                  plain 23 v.eui64 refl (λ y e. passed eight_bytes v.eui64 y f.eui64 e),
                                  tt,
                                ),
                              ),
                            ),
                          ),
                        ),
                      ),
                    ),
                  ),
                ),
              ),
            ),
          ),
        ),
      ),
    ),
  )

-- ---- the address lists

list_reads : (l : ListValue) → list_fits l ≡ true → length (list_bytes l) ≤ most_bytes → Reads 30 (list_bytes l)
unfolding keeps_rule
list_reads l g small =
    let b = both (eqb l.child_id (l.rloc16 % 512)) (whole_addresses l.addresses) g in
    let n = list_length l in
    let m : length (list_bytes l) - 2 ≡ length l.addresses = omega arith in
    keeps (list_bytes l) small 30 refl (rw (le-leb 2 (length (list_bytes l)) (omega arith), m) b.1)

lists_read : (ls : List ListValue) → all list_fits ls ≡ true → Within (map list_content ls) → Every Readable (map list_content ls)
unfolding all
lists_read [] g w = tt
lists_read (l ∷ ls) g w =
    let b = both (list_fits l) (all list_fits ls) g in
    (list_reads l b.0 w.0, lists_read ls b.1 w.1)

-- what a value of type 30 says
abbrev pub list_in : List ℕ → Listed
list_in x = record { rloc16 = (address_list_of x).rloc16; child_id = (address_list_of x).child_id; addresses = addresses (drop 2 x) }

pub lists_by_value : (es : List Entry) → map unplaced (map address_list es) ≡ map list_in (map (λ (e : Entry). e.value) es)
lists_by_value [] = refl
lists_by_value (e ∷ es) = ap (λ (l : List Listed). list_in e.value ∷ l) (lists_by_value es)

all_lists : (ls : List ListValue) → all_in 30 (map list_content ls) ≡ map list_bytes ls
unfolding all_in
all_lists [] = refl
all_lists (l ∷ ls) = ap (λ (x : List (List ℕ)). list_bytes l ∷ x) (all_lists ls)

last_lists : (ty : ℕ) (ls : List ListValue) (best : Answer (List ℕ)) → eqb 30 ty ≡ false → last_in ty best (map list_content ls) ≡ best
unfolding last_in
last_lists ty [] best h = refl
last_lists ty (l ∷ ls) best h = ap (λ (b : Bool). last_in ty (pick b (given (list_bytes l)) best) (map list_content ls)) h ∙ last_lists ty ls best h

abbrev lists : ChildIpv6AddrInfo → List ℕ → Listed
lists x a = record { rloc16 = x.rloc16; child_id = x.child_id; addresses = addresses a }

one_list : (l : ListValue) → l.rloc16 < 65536 → list_fits l ≡ true → list_in (list_bytes l) ≡ listed l
one_list l h g =
    ap (λ (x : ChildIpv6AddrInfo). lists x (drop 2 (list_bytes l))) (list_back l h g) ∙ ap (lists (list_says l)) (list_addresses l)

lists_back : (ls : List ListValue) → Every (λ (l : ListValue). l.rloc16 < 65536) ls → all list_fits ls ≡ true → map list_in (map list_bytes ls) ≡ map listed ls
unfolding all
lists_back [] h g = refl
lists_back (l ∷ ls) h g =
    let b = both (list_fits l) (all list_fits ls) g in
    ap (λ (x : Listed). x ∷ map list_in (map list_bytes ls)) (one_list l h.0 b.0) ∙ ap (λ (x : List Listed). listed l ∷ x) (lists_back ls h.1 b.1)

-- ---- what the entries say, field by field

pub part_says : {A : Type 0} (f : List ℕ → A) (a : Answer Entry) → saying (on_given (said f) a) ≡ on_given (λ (e : Entry). f e.value) a
part_says f (given e) = refl
part_says f absent = refl
part_says f (refused n p i) = refl

pub network_says : (a : Answer Entry) → on_given (λ (x : NetworkDataValue). x.prefixes) (saying (on_given (said network_data_of) a)) ≡ on_given (λ (e : Entry). N.contents e.value) a
network_says (given e) = refl
network_says absent = refl
network_says (refused n p i) = refl

-- a field that was made of x, and is read as x
field_back : {A : Type 0} (f : List ℕ → A) (enc : A → List ℕ) (a : Answer A) → ((x : A) → a ≡ given x → f (enc x) ≡ x) → on_given f (or_absent (on_given enc a)) ≡ or_absent a
field_back f enc (given x) h = ap given (h x refl)
field_back f enc absent h = refl
field_back f enc (refused n p i) h = refl

raw_back : {A : Type 0} (f : List ℕ → A) (a : Answer (List ℕ)) → on_given f (or_absent a) ≡ or_absent (on_given f a)
raw_back f (given x) = refl
raw_back f absent = refl
raw_back f (refused n p i) = refl

raw_same : (a : Answer (List ℕ)) → on_given raw (or_absent a) ≡ or_absent a
raw_same (given x) = refl
raw_same absent = refl
raw_same (refused n p i) = refl

-- a reading by its fields
abbrev pub read : (a0 : Answer (List ℕ)) → (a1 : Answer ℕ) → (a2 : Answer ModeData) → (a3 : Answer ℕ) → (a4 : Answer ConnectivityValue) → (a5 : Answer Route) → (a6 : Answer LeaderData) → (a7 : Answer (List Prefix)) → (a8 : Answer (List (List ℕ))) → (a9 : Answer MacCounters) → (a10 : Answer ℕ) → (a11 : Answer ℕ) → (a12 : Answer (List ChildTableEntry)) → (a13 : Answer (List ℕ)) → (a14 : Answer (List ℕ)) → (a15 : Answer (List ℕ)) → (a16 : List Listed) → Reading
read a0 a1 a2 a3 a4 a5 a6 a7 a8 a9 a10 a11 a12 a13 a14 a15 a16 = record {
  ext_mac_addr = a0;
  mac_addr = a1;
  mode = a2;
  timeout = a3;
  connectivity = a4;
  route64 = a5;
  leader_data = a6;
  network_data = a7;
  addresses = a8;
  mac_counters = a9;
  battery_level = a10;
  supply_voltage = a11;
  child_table = a12;
  channel_pages = a13;
  type_list = a14;
  eui64 = a15;
  child_lists = a16;
}

-- field by field
pub by_fields : {a0 b0 : Answer (List ℕ)} {a1 b1 : Answer ℕ} {a2 b2 : Answer ModeData} {a3 b3 : Answer ℕ} {a4 b4 : Answer ConnectivityValue} {a5 b5 : Answer Route} {a6 b6 : Answer LeaderData} {a7 b7 : Answer (List Prefix)} {a8 b8 : Answer (List (List ℕ))} {a9 b9 : Answer MacCounters} {a10 b10 : Answer ℕ} {a11 b11 : Answer ℕ} {a12 b12 : Answer (List ChildTableEntry)} {a13 b13 : Answer (List ℕ)} {a14 b14 : Answer (List ℕ)} {a15 b15 : Answer (List ℕ)} {a16 b16 : List Listed}
    → a0 ≡ b0 → a1 ≡ b1 → a2 ≡ b2 → a3 ≡ b3 → a4 ≡ b4 → a5 ≡ b5 → a6 ≡ b6 → a7 ≡ b7 → a8 ≡ b8 → a9 ≡ b9 → a10 ≡ b10 → a11 ≡ b11 → a12 ≡ b12 → a13 ≡ b13 → a14 ≡ b14 → a15 ≡ b15 → a16 ≡ b16
    → read a0 a1 a2 a3 a4 a5 a6 a7 a8 a9 a10 a11 a12 a13 a14 a15 a16 ≡ read b0 b1 b2 b3 b4 b5 b6 b7 b8 b9 b10 b11 b12 b13 b14 b15 b16
by_fields e0 e1 e2 e3 e4 e5 e6 e7 e8 e9 e10 e11 e12 e13 e14 e15 e16 = cc

module _ (v : Values) (es : List Entry) (is : contents es ≡ entries_of v) where
  -- of any type but 30, of which there is at most one
  says_field : {A : Type 0} (ty : ℕ) (f : List ℕ → A) → once ty (fields v) ≡ true → eqb 30 ty ≡ false → last_says ty f es ≡ on_given f (lookup ty (fields v))
  unfolding entries_of
  says_field ty f o h =
      sym (on_on f (λ (e : Entry). e.value) (last ty es))
      ∙ ap (on_given f) (last_contents ty absent es ∙ ap (last_in ty absent) is ∙ last_field ty (map list_content v.child_lists) (fields v) o (λ best. last_lists ty v.child_lists best h))

  lists_say : map unplaced (address_lists es) ≡ map list_in (map list_bytes v.child_lists)
  unfolding address_lists entries_of free
  lists_say =
      lists_by_value (all_of 30 es)
      ∙ ap (map list_in) (all_contents 30 es ∙ ap (all_in 30) is ∙ all_free 30 (map list_content v.child_lists) (fields v) refl ∙ all_lists v.child_lists)

  module _ (f : Fit v) (t : Typed v) where
    pub says_back : reading_of (diag es) (address_lists es) ≡ says v
    unfolding reading_of diag says once free lookup
    says_back =
        by_fields
        (part_says raw (last 0 es) ∙ says_field 0 raw refl refl ∙ raw_same v.ext_mac_addr)
        (says_field 1 be refl refl ∙ field_back be (bytes_of 2) v.mac_addr (λ x e. be_bytes 2 x (omega (arith, under_is 65536 v.mac_addr x t.mac_addr e))))
        (says_field 2 mode_value refl refl ∙ field_back mode_value mode_bytes v.mode (λ x e. mode_back x))
        (says_field 3 be refl refl ∙ field_back be (bytes_of 4) v.timeout (λ x e. be_bytes 4 x (omega (arith, under_is 4294967296 v.timeout x t.timeout e))))
        (says_field 4 connectivity_of refl refl
        ∙ field_back connectivity_of connectivity_bytes v.connectivity (λ x e. connectivity_back x (passed connectivity_fits v.connectivity x f.connectivity e) (typed_is _ v.connectivity x t.connectivity e)))
        (part_says route_of (last 5 es) ∙ says_field 5 route_of refl refl
        ∙ field_back route_of route64_bytes v.route64 (λ x e. route_back x (typed_is _ v.route64 x t.route64 e) (passed route64_fits v.route64 x f.route64 e)))
        (says_field 6 leader_of refl refl ∙ field_back leader_of leader_bytes v.leader_data (λ x e. leader_back x (typed_is _ v.leader_data x t.leader_data e)))
        (network_says (last 7 es) ∙ says_field 7 N.contents refl refl
        ∙ field_back N.contents network_bytes v.network_data (λ x e. contents_back x (passed network_fits v.network_data x f.network_data e)))
        (part_says addresses (last 8 es) ∙ says_field 8 addresses refl refl ∙ raw_back addresses v.addresses)
        (says_field 9 counters_of refl refl ∙ field_back counters_of counters_bytes v.mac_counters (λ x e. counters_back x (typed_is Words v.mac_counters x t.mac_counters e)))
        (says_field 14 byte_of refl refl ∙ field_back byte_of one_byte v.battery_level (λ x e. refl))
        (says_field 15 be refl refl ∙ field_back be (bytes_of 2) v.supply_voltage (λ x e. be_bytes 2 x (omega (arith, under_is 65536 v.supply_voltage x t.supply_voltage e))))
        (part_says child_rows (last 16 es) ∙ says_field 16 child_rows refl refl
        ∙ field_back child_rows children_bytes v.child_table (λ x e. children_back x (passed (all child_fits) v.child_table x f.child_table e)))
        (part_says raw (last 17 es) ∙ says_field 17 raw refl refl ∙ raw_same v.channel_pages)
        (part_says raw (last 18 es) ∙ says_field 18 raw refl refl ∙ raw_same v.type_list)
        (part_says raw (last 23 es) ∙ says_field 23 raw refl refl ∙ raw_same v.eui64)
        (lists_say ∙ lists_back v.child_lists t.child_lists f.child_lists)

-- ---- the whole record

-- what is within the sizes of a payload
pub record InSizes (cs : List Content) (bs : List ℕ) : Type 0 where
  pub bytes : length (encode_all cs) ≤ most_bytes
  pub entries : length cs ≤ most_entries
  pub are : bs ≡ encode_all cs

abbrev Sized : List Content → Answer (List ℕ) → Type 0
Sized cs (given bs) = InSizes cs bs
Sized cs absent = Unit {0}
Sized cs (refused n p i) = Unit {0}

sized_passed : (cs : List Content) → Sized cs (sized cs)
unfolding sized
sized_passed cs =
    pick_all (Sized cs) (ltb most_bytes (length (encode_all cs))) (refused 10 0 0) _ (λ e. tt)
    (λ a. pick_all (Sized cs) (ltb most_entries (length cs)) (refused 10 0 0) (given (encode_all cs)) (λ e. tt)
    (λ b. record { bytes = ltb-false _ _ a; entries = ltb-false _ _ b; are = refl }))

pub in_sizes : (cs : List Content) (bs : List ℕ) → sized cs ≡ given bs → InSizes cs bs
in_sizes cs bs e = subst (Sized cs) e (sized_passed cs)

not_true : (b : Bool) → pick b false true ≡ true → b ≡ false
not_true true h = absurd (let z : ◌≡◌ {A = ℕ} 0 1 = cc in omega arith)
not_true false h = refl

either : (b c : Bool) → pick b true c ≡ false → (b ≡ false) × (c ≡ false)
either true c h = absurd (let z : ◌≡◌ {A = ℕ} 0 1 = cc in omega arith)
either false c h = (refl, h)

small_tables : (v : Values) → tables_fit v ≡ true → (ps : List Prefix) → v.network_data ≡ given ps → Small ps
unfolding tables_fit over_sizes
small_tables v t ps e =
    let over = not_true (over_sizes ps) (passed within_sizes v.network_data ps t e) in
    let a = either (ltb most_prefixes (length ps)) _ over in
    let b = either (ltb most_has_routes (length (all_routes ps))) _ a.1 in
    record { prefixes = ltb-false _ _ a.0; routes = ltb-false _ _ b.0; borders = ltb-false _ _ b.1 }

-- each entry is read
entries_read : (v : Values) → Fit v → Typed v → ((ps : List Prefix) → v.network_data ≡ given ps → Small ps) → length (encode_all (entries_of v)) ≤ most_bytes
    → Every Readable (entries_of v)
unfolding entries_of
entries_read v f t small n =
    let w = every_parts (λ (c : Content). length c.value ≤ most_bytes) (present (fields v)) (map list_content v.child_lists) (values_within (entries_of v) most_bytes n) in
    every_append Readable (present (fields v)) (map list_content v.child_lists) (fields_read (fields v) (fields_good v f t small) w.0) (lists_read v.child_lists f.child_lists w.1)

-- the entries that are found in what was written
pub record Found (v : Values) (bs : List ℕ) : Type 0 where
  pub entries : List Entry
  pub framing : framed 0 bs ≡ given entries
  pub passing : checked bs ≡ given entries
  pub are : contents entries ≡ entries_of v

pub found : (v : Values) (bs : List ℕ) → Typed v → tables_fit v ≡ true → values_fit v ≡ true → sized (entries_of v) ≡ given bs → Found v bs
unfolding checked
found v bs t small fits e =
    let z = in_sizes (entries_of v) bs e in
    let f = fit v fits in
    let g = gives contents (framed 0 (encode_all (entries_of v))) (entries_of v) (parse_written 0 (entries_of v) z.bytes z.entries) in
    let all = entries_read v f t (small_tables v small) z.bytes in
    let decodes = decoding_all g.one (subst (Every Readable) (sym g.so) all) in
    let frames = ap (framed 0) z.are ∙ g.is in
    record { entries = g.one; framing = frames; passing = ap (λ (a : Answer (List Entry)). then_do a decoding) frames ∙ decodes; are = g.so }

-- "Reading what was written gives the record back"
pub read_back : (v : Values) (bs : List ℕ) → Typed v → tables_fit v ≡ true → values_fit v ≡ true → sized (entries_of v) ≡ given bs → reading bs ≡ given (says v)
unfolding reading
read_back v bs t small fits e =
    let g = found v bs t small fits e in
    ap (on_given (λ (es : List Entry). reading_of (diag es) (address_lists es))) g.passing
    ∙ ap given (says_back v g.entries g.are (fit v fits) t)
