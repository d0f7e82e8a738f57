-- A record that was read is never refused 10, 12, 13 or 15 on writing, and writing what was read and reading it again gives the same record. This is `again`.
-- Assumes nothing.
use mathlib.Core.Path.{◌≡◌, refl, sym, ap, ◌∙◌, subst}
use mathlib.Core.Bool.{true, false}
use mathlib.Core.List.{List, [], ◌∷◌, map}
use Prim.Native.Nat.{ℕ, ◌+◌, ◌-◌, ◌%◌, ◌≤◌, ◌<◌}
use native.Mathlib.Omega.{arith}
use lib.ListN.{length, drop}
use lib.Dec.{eqb, leb}
use borrow.Author.Tests.{eqb-true, leb-true, le-ltb}
use Rattle.refusal.specs.Sizes.{most_bytes, most_entries, most_value, most_prefixes, most_has_routes, most_border_routers}
use Rattle.refusal.specs.Every.{Every, Bytes}
use Rattle.refusal.specs.Answer.{Answer, given, absent, refused, on_given, then_do}
use Rattle.refusal.specs.Each.{all}
use Rattle.laws.proofs.Bits.{both}
use Rattle.laws.proofs.Parts.{every_take, every_drop}
use Rattle.laws.proofs.Answers.{gives, on_on}
use Rattle.wire_bytes.specs.Bytes.{bytes_of}
use Rattle.wire.specs.Be.{be}
use Rattle.wire.proofs.Round.{length_bytes, be_small}
use Rattle.tlv.specs.Entries.{Entry, Content, contents, framing}
use Rattle.tlv.specs.Limits.{framed}
use Rattle.tlv.proofs.Walks.{Lies, framing_lies}
use Rattle.tlv.proofs.Tally.{Only, only}
use Rattle.tlv_writing.specs.Encode.{size_of, encode_all, sized}
use Rattle.tlv_writing.proofs.Round.{length_contents, given_bytes, given_entries, parsed_length}
use Rattle.diag_rules.specs.Rule.{keeps_rule}
use Rattle.diag_values.specs.Values.{mode_value, leader_of, counters_of}
use Rattle.connectivity.specs.Connectivity.{connectivity_of}
use Rattle.route64.specs.Routes.{route_of}
use Rattle.diag_rows.specs.Rows.{child_rows, addresses}
use Rattle.network_data.specs.Decode.{Prefix}
use Rattle.network_data.specs.Decode as N
use Rattle.diag_entries.specs.Parts.{last, all_of}
use Rattle.diag_entries.specs.Checked.{decoding, checked}
use Rattle.diag_entries.specs.Lists.{address_lists}
use Rattle.diag_entries.proofs.Checks.{Decodes, Fine, fine}
use Rattle.diag.specs.Diag.{raw, byte_of, diag}
use Rattle.network_writing.specs.Encode.{network_bytes}
use Rattle.network_writing.specs.Fits.{network_fits, over_sizes}
use Rattle.network_writing.proofs.Round.{Small}
use Rattle.value_writing.specs.Encode.{mode_bytes, connectivity_bytes, leader_bytes, counters_bytes, route64_bytes, children_bytes, ListValue}
use Rattle.value_writing.specs.Fits.{Words, connectivity_fits, route64_fits, child_fits, whole_addresses, list_fits}
use Rattle.value_writing.proofs.Round.{leader_size, counters_size}
use Rattle.value_writing.proofs.Again.{connectivity_fits_lem, buffer_under, connectivity_length, mask_length, route_writes, route_size, leader_small, counters_small, children_fit, children_length, addresses_back, list_whole, list_fits_lem, list_size, list_rloc}
use Rattle.record_writing.specs.Values.{Values, field, one_byte, fields, present, list_content, entries_of}
use Rattle.record_writing.specs.Typed.{Typed}
use Rattle.record_writing.specs.Fits.{passes, within_sizes, tables_fit, values_fit, eight_bytes}
use Rattle.record_writing.specs.Reading.{Listed, Reading, reading_of, reading, or_absent, listed, says}
use Rattle.record_writing.specs.Again.{flat, list_value, values_in, Again}
use Rattle.record_writing.proofs.Last.{values_within, last_in, all_in, last_contents, all_contents}
use Rattle.record_writing.proofs.Round.{list_in, lists_by_value, part_says, network_says, read, by_fields, in_sizes, read_back}
use Rattle.record_writing.proofs.Form.{rises}
use Rattle.record_writing.proofs.Weights.{weight, share, values_weight, weight_append, all_weight, Light, fields_weight, size_weight, each, count_weight, size_more}
use Rattle.record_writing.proofs.Kept.{Has, last_has, all_has, given_on, passes_on, or_on, light_on, under_on, raw_light, Keeps, good_keeps, good_network, Good, Network}

-- ---- the reading of entries by the last value of each type
unfoldable read_of : List Content → Reading
read_of cs =
    read (on_given raw (last_in 0 absent cs)) (on_given be (last_in 1 absent cs)) (on_given mode_value (last_in 2 absent cs)) (on_given be (last_in 3 absent cs))
    (on_given connectivity_of (last_in 4 absent cs)) (on_given route_of (last_in 5 absent cs)) (on_given leader_of (last_in 6 absent cs)) (on_given N.contents (last_in 7 absent cs))
    (on_given addresses (last_in 8 absent cs)) (on_given counters_of (last_in 9 absent cs)) (on_given byte_of (last_in 14 absent cs)) (on_given be (last_in 15 absent cs))
    (on_given child_rows (last_in 16 absent cs)) (on_given raw (last_in 17 absent cs)) (on_given raw (last_in 18 absent cs)) (on_given raw (last_in 23 absent cs))
    (map list_in (all_in 30 cs))

module _ (es : List Entry) where
  last_says : {A : Type 0} (ty : ℕ) (f : List ℕ → A) → on_given (λ (e : Entry). f e.value) (last ty es) ≡ on_given f (last_in ty absent (contents es))
  last_says ty f = sym (on_on f (λ (e : Entry). e.value) (last ty es)) ∙ ap (on_given f) (last_contents ty absent es)

  read_as : reading_of (diag es) (address_lists es) ≡ read_of (contents es)
  unfolding reading_of diag address_lists read_of
  read_as =
      by_fields
      (part_says raw (last 0 es) ∙ last_says 0 raw)
      (last_says 1 be)
      (last_says 2 mode_value)
      (last_says 3 be)
      (last_says 4 connectivity_of)
      (part_says route_of (last 5 es) ∙ last_says 5 route_of)
      (last_says 6 leader_of)
      (network_says (last 7 es) ∙ last_says 7 N.contents)
      (part_says addresses (last 8 es) ∙ last_says 8 addresses)
      (last_says 9 counters_of)
      (last_says 14 byte_of)
      (last_says 15 be)
      (part_says child_rows (last 16 es) ∙ last_says 16 child_rows)
      (part_says raw (last 17 es) ∙ last_says 17 raw)
      (part_says raw (last 18 es) ∙ last_says 18 raw)
      (part_says raw (last 23 es) ∙ last_says 23 raw)
      (lists_by_value (all_of 30 es) ∙ ap (map list_in) (all_contents 30 es))

-- ---- what was read, written again
pub within : (ps : List Prefix) → Small ps → within_sizes ps ≡ true
unfolding over_sizes
within ps z = rw (le-ltb most_prefixes _ z.prefixes, le-ltb most_has_routes _ z.routes, le-ltb most_border_routers _ z.borders)

module _ (cs : List Content) (good : Every (λ (c : Content). Good c.ty c.value) cs) where
  abbrev v : Values
  v = values_in (read_of cs)

  of_type : (ty : ℕ) (P : List ℕ → Type 0) → ((x : List ℕ) → Good ty x → P x) → (ds : List Content) → Every (λ (c : Content). Good c.ty c.value) ds
      → Every (λ (c : Content). c.ty ≡ ty → P c.value) ds
  of_type ty P f [] g = tt
  of_type ty P f (c ∷ ds) g = ((λ t. f c.value (subst (λ (k : ℕ). Good k c.value) t g.0)), of_type ty P f ds g.1)

  last_keeps : (ty : ℕ) → eqb ty 7 ≡ false → Has (Keeps ty) (last_in ty absent cs)
  last_keeps ty h = last_has ty (Keeps ty) cs absent tt (of_type ty (Keeps ty) (λ x g. good_keeps ty x h g) cs good)

  last_network : Has Network (last_in 7 absent cs)
  last_network = last_has 7 Network cs absent tt (of_type 7 Network good_network cs good)

  lists_keep : Every (Keeps 30) (all_in 30 cs)
  lists_keep = all_has 30 (Keeps 30) cs (of_type 30 (Keeps 30) (λ x g. good_keeps 30 x refl g) cs good)

  again_typed : Typed v
  unfolding values_in read_of keeps_rule
  again_typed = record {
    mac_addr = under_on (Keeps 1) be 65536 (last_in 1 absent cs) (last_keeps 1 refl) (λ x k. be_small 2 x (eqb-true (length x) 2 k.1) k.0);
    timeout = under_on (Keeps 3) be 4294967296 (last_in 3 absent cs) (last_keeps 3 refl) (λ x k. be_small 4 x (eqb-true (length x) 4 k.1) k.0);
    connectivity = given_on (Keeps 4) connectivity_of _ (last_in 4 absent cs) (last_keeps 4 refl) (λ x k. buffer_under x k.0);
    route64 = given_on (Keeps 5) route_of _ (last_in 5 absent cs) (last_keeps 5 refl) (λ x k. mask_length x k.1);
    leader_data = given_on (Keeps 6) leader_of _ (last_in 6 absent cs) (last_keeps 6 refl) (λ x k. leader_small x (eqb-true (length x) 8 k.1) k.0);
    mac_counters = given_on (Keeps 9) counters_of Words (last_in 9 absent cs) (last_keeps 9 refl) (λ x k. counters_small x (eqb-true (length x) 36 k.1) k.0);
    supply_voltage = under_on (Keeps 15) be 65536 (last_in 15 absent cs) (last_keeps 15 refl) (λ x k. be_small 2 x (eqb-true (length x) 2 k.1) k.0);
    child_lists = lists_typed (all_in 30 cs) lists_keep;
  }
    where
      lists_typed : (xs : List (List ℕ)) → Every (Keeps 30) xs → Every (λ (l : ListValue). l.rloc16 < 65536) (map list_value (map list_in xs))
      lists_typed [] k = tt
      lists_typed (x ∷ xs) k =
          let b = both (leb 2 (length x)) (eqb ((length x - 2) % 16) 0) k.0.1 in
          (list_rloc x (leb-true 2 (length x) b.0) (eqb-true ((length x - 2) % 16) 0 b.1) k.0.0, lists_typed xs k.1)

  -- not 12
  again_tables : tables_fit v ≡ true
  unfolding tables_fit values_in read_of
  again_tables = passes_on Network N.contents within_sizes (last_in 7 absent cs) last_network (λ x k. within (N.contents x) k.small)

  -- not 15
  again_fits : values_fit v ≡ true
  unfolding values_fit values_in read_of keeps_rule all passes
  again_fits =
      rw (passes_on (Keeps 4) connectivity_of connectivity_fits (last_in 4 absent cs) (last_keeps 4 refl) (λ x k. connectivity_fits_lem x))
      (rw (passes_on (Keeps 5) route_of route64_fits (last_in 5 absent cs) (last_keeps 5 refl) (λ x k. route_writes x k.1))
      (rw (passes_on Network N.contents network_fits (last_in 7 absent cs) last_network (λ x k. k.fits))
      (rw (addresses_pass (last_in 8 absent cs) (last_keeps 8 refl))
      (rw (passes_on (Keeps 16) child_rows (all child_fits) (last_in 16 absent cs) (last_keeps 16 refl) (λ x k. children_fit x))
      (rw (passes_on (Keeps 23) raw eight_bytes (last_in 23 absent cs) (last_keeps 23 refl) (λ x k. k.1))
      (lists_fit (all_in 30 cs) lists_keep))))))
    where
      addresses_pass : (a : Answer (List ℕ)) → Has (Keeps 8) a → passes whole_addresses (on_given flat (on_given addresses a)) ≡ true
      addresses_pass (given x) k = rw (addresses_back x (eqb-true (length x % 16) 0 k.1)) k.1
      addresses_pass absent k = refl
      addresses_pass (refused n p i) k = absurd k

      lists_fit : (xs : List (List ℕ)) → Every (Keeps 30) xs → all list_fits (map list_value (map list_in xs)) ≡ true
      lists_fit [] k = refl
      lists_fit (x ∷ xs) k =
          let b = both (leb 2 (length x)) (eqb ((length x - 2) % 16) 0) k.0.1 in
          rw (list_fits_lem x (leb-true 2 (length x) b.0) (eqb-true ((length x - 2) % 16) 0 b.1)) (lists_fit xs k.1)

  -- the reading of what is written is the one that was read
  again_says : says v ≡ read_of cs
  unfolding says values_in read_of keeps_rule
  again_says =
      by_fields
      (or_on (Keeps 0) raw (last_in 0 absent cs) (last_keeps 0 refl))
      (or_on (Keeps 1) be (last_in 1 absent cs) (last_keeps 1 refl))
      (or_on (Keeps 2) mode_value (last_in 2 absent cs) (last_keeps 2 refl))
      (or_on (Keeps 3) be (last_in 3 absent cs) (last_keeps 3 refl))
      (or_on (Keeps 4) connectivity_of (last_in 4 absent cs) (last_keeps 4 refl))
      (or_on (Keeps 5) route_of (last_in 5 absent cs) (last_keeps 5 refl))
      (or_on (Keeps 6) leader_of (last_in 6 absent cs) (last_keeps 6 refl))
      (or_on Network N.contents (last_in 7 absent cs) last_network)
      (addresses_say (last_in 8 absent cs) (last_keeps 8 refl))
      (or_on (Keeps 9) counters_of (last_in 9 absent cs) (last_keeps 9 refl))
      (or_on (Keeps 14) byte_of (last_in 14 absent cs) (last_keeps 14 refl))
      (or_on (Keeps 15) be (last_in 15 absent cs) (last_keeps 15 refl))
      (or_on (Keeps 16) child_rows (last_in 16 absent cs) (last_keeps 16 refl))
      (or_on (Keeps 17) raw (last_in 17 absent cs) (last_keeps 17 refl))
      (or_on (Keeps 18) raw (last_in 18 absent cs) (last_keeps 18 refl))
      (or_on (Keeps 23) raw (last_in 23 absent cs) (last_keeps 23 refl))
      (lists_say (all_in 30 cs) lists_keep)
    where
      addresses_say : (a : Answer (List ℕ)) → Has (Keeps 8) a → or_absent (on_given addresses (on_given flat (on_given addresses a))) ≡ on_given addresses a
      addresses_say (given x) k = ap (λ (y : List ℕ). given (addresses y)) (addresses_back x (eqb-true (length x % 16) 0 k.1))
      addresses_say absent k = refl
      addresses_say (refused n p i) k = absurd k

      lists_say : (xs : List (List ℕ)) → Every (Keeps 30) xs → map listed (map list_value (map list_in xs)) ≡ map list_in xs
      lists_say [] k = refl
      lists_say (x ∷ xs) k =
          let b = both (leb 2 (length x)) (eqb ((length x - 2) % 16) 0) k.0.1 in
          let back = list_whole x (leb-true 2 (length x) b.0) (eqb-true ((length x - 2) % 16) 0 b.1) in
          ap (λ (y : List ℕ). record { rloc16 = (list_in x).rloc16; child_id = (list_in x).child_id; addresses = addresses y } ∷ map listed (map list_value (map list_in xs))) back
          ∙ ap (λ (l : List Listed). list_in x ∷ l) (lists_say xs k.1)

  -- no value is longer than it was, so that nothing is heavier
  module _ (w : ℕ → ℕ) (more : (m n : ℕ) → m ≤ n → w m ≤ w n) where
    light : {A : Type 0} (ty : ℕ) (f : List ℕ → A) (enc : A → List ℕ) → eqb ty 7 ≡ false → ((x : List ℕ) → Keeps ty x → length (enc (f x)) ≤ length x)
        → Light w cs (field ty (on_given enc (on_given f (last_in ty absent cs))))
    light ty f enc h k = light_on (Keeps ty) f w more enc (last_in ty absent cs) (last_keeps ty h) k

    again_light : Every (Light w cs) (fields v)
    unfolding values_in read_of keeps_rule
    again_light = (
      raw_light w (last_in 0 absent cs),
      (
        light 1 be (bytes_of 2) refl (λ x k. omega (arith, length_bytes 2 (be x), eqb-true (length x) 2 k.1)),
        (
          light 2 mode_value mode_bytes refl (λ x k. omega (arith, eqb-true (length x) 1 k.1)),
          (
            light 3 be (bytes_of 4) refl (λ x k. omega (arith, length_bytes 4 (be x), eqb-true (length x) 4 k.1)),
            (
              light 4 connectivity_of connectivity_bytes refl (λ x k. connectivity_length x (leb-true 7 (length x) k.1)),
              (
                light 5 route_of route64_bytes refl (λ x k. omega (arith, route_size x k.1)),
                (
                  light 6 leader_of leader_bytes refl (λ x k. omega (arith, leader_size (leader_of x), eqb-true (length x) 8 k.1)),
                  (
                    light_on Network N.contents w more network_bytes (last_in 7 absent cs) last_network (λ x k. k.size),
                    (
                      light 8 addresses flat refl (λ x k. omega (arith, ap length (addresses_back x (eqb-true (length x % 16) 0 k.1)))),
                      (
                        light 9 counters_of counters_bytes refl (λ x k. omega (arith, counters_size (counters_of x), eqb-true (length x) 36 k.1)),
                        (
                          light 14 byte_of one_byte refl (λ x k. omega (arith, eqb-true (length x) 1 k.1)),
                          (
                            light 15 be (bytes_of 2) refl (λ x k. omega (arith, length_bytes 2 (be x), eqb-true (length x) 2 k.1)),
                            (
                              light 16 child_rows children_bytes refl (λ x k. children_length x),
                              (
                                raw_light w (last_in 17 absent cs),
                                (
                                  raw_light w (last_in 18 absent cs),
                                  (
                                    raw_light w (last_in 23 absent cs),
                                    tt,
                                  ),
                                ),
                              ),
                            ),
                          ),
                        ),
                      ),
                    ),
                  ),
                ),
              ),
            ),
          ),
        ),
      ),
    )

    again_lists : weight w (map list_content v.child_lists) ≡ share w 30 cs
    unfolding values_in read_of weight values_weight keeps_rule
    again_lists = lists_weigh (all_in 30 cs) lists_keep ∙ all_weight w 30 cs
      where
        lists_weigh : (xs : List (List ℕ)) → Every (Keeps 30) xs → weight w (map list_content (map list_value (map list_in xs))) ≡ values_weight w xs
        lists_weigh [] k = refl
        lists_weigh (x ∷ xs) k =
            let b = both (leb 2 (length x)) (eqb ((length x - 2) % 16) 0) k.0.1 in
            let same = list_size x (leb-true 2 (length x) b.0) (eqb-true ((length x - 2) % 16) 0 b.1) in
            ap (λ (n : ℕ). w n + weight w (map list_content (map list_value (map list_in xs)))) same ∙ ap (λ (n : ℕ). w (length x) + n) (lists_weigh xs k.1)

    again_weight : weight w (entries_of v) ≤ weight w cs
    unfolding entries_of rises
    again_weight = omega (arith, weight_append w (present (fields v)) (map list_content v.child_lists), again_lists, fields_weight w cs (fields v) refl again_light)

  -- not 10
  again_sized : length (encode_all cs) ≤ most_bytes → length cs ≤ most_entries → sized (entries_of v) ≡ given (encode_all (entries_of v))
  unfolding sized
  again_sized h k =
      let bytes = again_weight size_of size_more in
      let count = again_weight each (λ m n l. omega arith) in
      rw
      (le-ltb most_bytes (length (encode_all (entries_of v))) (omega (arith, size_weight (entries_of v), size_weight cs)), le-ltb most_entries (length (entries_of v)) (omega (arith, count_weight (entries_of v), count_weight cs)))

-- ---- the payload that was read

module _ (s : List ℕ) (b : Bytes s) where
  bytes_by : (es : List Entry) → Every (Lies s) es → Every Decodes es → Every (λ (c : Content). Good c.ty c.value) (contents es)
  unfolding contents
  bytes_by [] l d = tt
  bytes_by (e ∷ es) l d =
      let part : Bytes e.value = rw l.0.2 (every_take (λ (x : ℕ). x < 256) (length e.value) (drop e.start s) (every_drop (λ (x : ℕ). x < 256) e.start s b)) in
      (record { bytes = part; place = e.place; decodes = d.0 }, bytes_by es l.1 d.1)

  again_by : (es : List Entry) → framed 0 s ≡ given es → Every Decodes es → Again (read_of (contents es))
  again_by es e d =
      let same : es ≡ (framing s).entries = subst (Only 0 (framing s).entries) e (only 0 s) in
      let good = bytes_by es (subst (Every (Lies s)) (sym same) (framing_lies s)) d in
      let cs = contents es in
      let writes = again_sized cs good (omega (arith, parsed_length 0 s es b e, given_bytes 0 s es e)) (omega (arith, given_entries 0 s es e, length_contents es)) in
      record {
        bytes = encode_all (entries_of (values_in (read_of cs)));
        typed = again_typed cs good;
        tables = again_tables cs good;
        fits = again_fits cs good;
        writes = writes;
        short = values_within (entries_of (values_in (read_of cs))) most_value (omega (arith, (in_sizes (entries_of (values_in (read_of cs))) _ writes).bytes));
        reads = read_back (values_in (read_of cs)) _ (again_typed cs good) (again_tables cs good) (again_fits cs good) writes ∙ ap given (again_says cs good);
      }

  by_answer : (a : Answer (List Entry)) → framed 0 s ≡ a → (es : List Entry) → then_do a decoding ≡ given es → Again (read_of (contents es))
  by_answer (given xs) h es e =
      let f = subst (Fine xs) e (fine xs) in
      subst (λ (l : List Entry). Again (read_of (contents l))) (sym f.0) (again_by xs h f.1)
  by_answer absent h es e = absurd (let z : ◌≡◌ {A = ℕ} 0 1 = cc in omega arith)
  by_answer (refused n p i) h es e = absurd (let z : ◌≡◌ {A = ℕ} 0 1 = cc in omega arith)

  -- what was read is written, and read again
  pub again : (r : Reading) → reading s ≡ given r → Again r
  unfolding reading checked
  again r e =
      let g = gives (λ (es : List Entry). reading_of (diag es) (address_lists es)) (checked s) r e in
      subst Again (sym (read_as g.one) ∙ g.so) (by_answer (framed 0 s) refl g.one g.is)
