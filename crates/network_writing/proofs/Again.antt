-- Network Data that was read can be written: it is within the sizes, fits, and is no longer than it was. These are `again_small`, `again_fits` and `again_length`.
-- Assumes nothing.
use mathlib.Core.Path.{◌≡◌, refl, ap, ◌∙◌, subst}
use mathlib.Core.Bool.{Bool, true}
use mathlib.Core.List.{List, [], ◌∷◌, ◌++◌, map}
use Prim.Native.Nat.{ℕ, ◌+◌, ◌-◌, ◌/◌, ◌≤◌}
use native.Mathlib.Omega.{arith}
use lib.ListN.{length, get_or, take, drop, length-append, length-map}
use lib.Seq.{length-take-le}
use lib.Dec.{eqb, leb, ltb}
use borrow.Author.Tests.{leb-true, ltb-false, eqb-true, eq-eqb, le-leb}
use Rattle.std.specs.Prelude.{Some}
use Rattle.refusal.specs.Sizes.{most_bytes}
use Rattle.refusal.specs.Every.{Every, Bytes}
use Rattle.refusal.specs.Answer.{Answer, given, absent, refused, on_given}
use Rattle.refusal.specs.Each.{joined, all}
use Rattle.laws.proofs.Tests.{by_test, pick_all}
use Rattle.laws.proofs.Joined.{joined_append}
use Rattle.network_framing.specs.Tlvs.{bytes_for, Opening, broken, opening, opened, bits_of, bytes_of, Piece}
use Rattle.network_framing.specs.Frame.{part, head_at, inner_of, walk_in}
use Rattle.network_framing.specs.Place.{head_place}
use Rattle.network_framing.proofs.Agrees.{head_agrees, head_tells}
use Rattle.network_data.specs.Rules.{counts, check_from, check_value}
use Rattle.network_data.specs.Decode.{route_at, border_at, places_in, Prefix, head_items, inner, prefix_at, prefixes, contents, decode_network_data, counts_of}
use Rattle.network_data.proofs.Counted.{counted, is_contents}
use Rattle.network_data.proofs.Moved.{head_begins}
use Rattle.network_writing.specs.Encode.{item_bytes, items_bytes, route_bytes, border_bytes, row_items, context_items, inner_items, prefix_value, prefix_item, network_bytes}
use Rattle.network_writing.specs.Fits.{most_item, route_fits, border_fits, context_fits, prefix_fits, network_fits}
use Rattle.network_writing.proofs.Items.{length_items}
use Rattle.network_writing.proofs.Rows.{route_size, border_size}
use Rattle.network_writing.proofs.Round.{Small, value_size}
use Rattle.network_writing.proofs.Few.{AllFew, check_few, Whole, Passed, values_whole}
use Rattle.network_writing.proofs.Extents.{byte_below, extent, share, Lies, walk_extent, walk_lies, three_shares, rows_share, rows_size, no_items, context_share, context_fits_lem}

-- ---- a prefix whose head is whole

abbrev Own : ℕ → Opening → Answer ℕ → Type 0
Own start o (given at) = at ≡ start + (2 + length (bytes_of o))
Own start o absent = Unit {0}
Own start o (refused n p i) = Unit {0}

own_bytes : (o : Opening) (start : ℕ) → Own start o (inner_of start o)
unfolding inner_of bytes_of
own_bytes broken start = tt
own_bytes (opening d b bytes rest) start = refl

head_own : (s : List ℕ) (start end : ℕ) → Own start (opened (part s start end)) (head_at s start end)
unfolding head_at
head_own s start end =
    let o = opened (part s start end) in
    pick_all (Own start o) (leb end start) (refused 5 0 0) _ (λ e. tt)
    (λ e. pick_all (Own start o) (ltb (length s) end) (refused 5 0 0) _ (λ f. tt) (λ f. own_bytes o start))

abbrev Sized : Opening → Type 0
Sized o = length (bytes_of o) ≡ bytes_for (bits_of o)

opened_sized : (v : List ℕ) → Sized (opened v)
unfolding opened bytes_of bits_of
opened_sized [] = refl
opened_sized (d ∷ []) = refl
opened_sized (d ∷ b ∷ rest) =
    pick_all Sized (leb (bytes_for b) (length rest)) (opening d b (take (bytes_for b) rest) (drop (bytes_for b) rest)) broken
    (λ e. length-take-le (bytes_for b) rest (leb-true _ _ e)) (λ e. refl)

inner_size : (p : Prefix) → length (items_bytes (inner_items p))
    ≡ length (items_bytes (row_items 0 route_bytes p.routes)) + (length (items_bytes (row_items 4 border_bytes p.borders)) + length (items_bytes (context_items p.context)))
unfolding inner_items
inner_size p =
    let A = row_items 0 route_bytes p.routes in
    let B = row_items 4 border_bytes p.borders in
    let C = context_items p.context in
    rw (joined_append item_bytes A (B ++ C), joined_append item_bytes B C)
    (omega (arith, length-append (items_bytes A) (items_bytes B ++ items_bytes C), length-append (items_bytes B) (items_bytes C)))

all_map : {A B : Type 0} (f : B → Bool) (g : A → B) (xs : List A) → ((x : A) → f (g x) ≡ true) → all f (map g xs) ≡ true
unfolding all
all_map f g [] h = refl
all_map f g (x ∷ xs) h = rw (h x) (all_map f g xs h)

module _ (s : List ℕ) (start end : ℕ) (w : Whole s start end) where
  abbrev p : Prefix
  p = prefix_at s start end

  head_at_lem : w.at ≡ start + (2 + length p.bytes)
  unfolding prefix_at
  head_at_lem = subst (Own start (opened (part s start end))) w.is (head_own s start end)

  head_before : w.at ≤ end
  head_before =
      let told = head_agrees s start end in
      head_begins s start end w.at (head_place s start end) told (head_tells (head_place s start end) (Some w.at) (told ∙ w.is))

  abbrev es : List Piece
  es = (walk_in s w.at end).items

  inner_is : inner s start end ≡ es
  unfolding inner head_items
  inner_is = rw w.is

  routes_size : length (items_bytes (row_items 0 route_bytes p.routes)) ≤ share 0 es
  unfolding prefix_at
  routes_size =
      let n = length-map (places_in 0 3 es) (route_at s) in
      rw (inner_is, rows_size 0 3 route_bytes route_size (map (route_at s) (places_in 0 3 es)), n) (rows_share 0 3 (λ len m. omega arith) es)

  borders_size : length (items_bytes (row_items 4 border_bytes p.borders)) ≤ share 2 es
  unfolding prefix_at
  borders_size =
      let n = length-map (places_in 2 4 es) (border_at s) in
      rw (inner_is, rows_size 4 4 border_bytes border_size (map (border_at s) (places_in 2 4 es)), n) (rows_share 2 4 (λ len m. omega arith) es)

  context_size : length (items_bytes (context_items p.context)) ≤ share 3 es
  unfolding prefix_at context_items joined
  context_size = rw inner_is (omega (arith, context_share s es absent))

  -- it is no longer than it was
  prefix_length : length (prefix_value p) ≤ end - start
  prefix_length =
      omega (arith, value_size p, inner_size p, routes_size, borders_size, context_size, three_shares es, walk_extent s end (end - w.at) w.at (omega arith), head_at_lem, head_before)

  prefix_fits_lem : Bytes s → end - start ≤ most_item → prefix_fits p ≡ true
  unfolding prefix_fits prefix_at context_fits
  prefix_fits_lem b small =
      rw (eq-eqb _ _ (opened_sized (part s start end)), context_fits_lem s (inner s start end) absent refl)
      (rw (all_map route_fits (route_at s) (places_in 0 3 (inner s start end)) (λ at. le-leb (get_or s (at + 2) 0 / 64) 3 (let k = byte_below s (at + 2) b in omega arith)))
      (rw (all_map border_fits (border_at s) (places_in 2 4 (inner s start end)) (λ at. le-leb (get_or s (at + 2) 0 / 64) 3 (let k = byte_below s (at + 2) b in omega arith)))
      (le-leb (length (prefix_value p)) most_item (omega (arith, prefix_length)))))

-- ---- all prefixes of a value
module _ (s : List ℕ) where
  prefixes_fit : Bytes s → (es : List Piece) → Every (Lies s (length s)) es → Every (Passed s) es → all prefix_fits (prefixes s es) ≡ true
  unfolding prefixes all
  prefixes_fit b [] l w = refl
  prefixes_fit b (e ∷ es) l w =
      by_test (eqb e.ty 1)
      (λ t.
      let one = prefix_fits_lem s e.start (e.start + e.len) (w.0 (eqb-true e.ty 1 t)) b (omega (arith, l.0.1)) in
      rw (t, one) (prefixes_fit b es l.1 w.1))
      (λ t. rw t (prefixes_fit b es l.1 w.1))

  prefixes_length : (es : List Piece) → Every (Passed s) es → length (items_bytes (map prefix_item (prefixes s es))) ≤ extent es
  unfolding prefixes extent
  prefixes_length [] w = omega (arith, no_items)
  prefixes_length (e ∷ es) w =
      by_test (eqb e.ty 1)
      (λ t.
      let x = prefix_at s e.start (e.start + e.len) in
      let one = prefix_length s e.start (e.start + e.len) (w.0 (eqb-true e.ty 1 t)) in
      rw t (omega (arith, one, length_items (prefix_item x) (map prefix_item (prefixes s es)), prefixes_length es w.1)))
      (λ t. rw t (omega (arith, prefixes_length es w.1)))

-- ---- a value that was read
module _ (place : ℕ) (s : List ℕ) (ps : List Prefix) (e : decode_network_data place s ≡ given ps) where
  not_large : length s ≤ most_bytes
  unfolding decode_network_data
  not_large =
      by_test (ltb most_bytes (length s))
      (λ t. absurd (let f : ◌≡◌ {A = Answer (List Prefix)} (refused 1 0 0) (given ps) = rw t at e in let z : ◌≡◌ {A = ℕ} 0 1 = cc in omega arith))
      (λ t. ltb-false _ _ t)

  checks : check_value place s ≡ given (counts_of ps)
  checks = counted place s not_large ∙ ap (on_given counts_of) e

  pub again_small : Small ps
  unfolding counts_of
  again_small =
      let few = subst AllFew checks (check_few place s) in
      record { prefixes = few.0; routes = few.1; borders = few.2 }

  all_passed : Every (Passed s) (walk_in s 0 (length s)).items
  unfolding check_value check_from
  all_passed = values_whole place s (walk_in s 0 (length s)).stop (walk_in s 0 (length s)).items (counts 0 0 0) (counts_of ps) checks

  pub again_fits : Bytes s → network_fits ps ≡ true
  unfolding network_fits contents
  again_fits b =
      rw (is_contents place s ps e) (prefixes_fit s b (walk_in s 0 (length s)).items (walk_lies s (length s) b (length s) 0 (omega arith)) all_passed)

  pub again_length : length (network_bytes ps) ≤ length s
  unfolding network_bytes contents
  again_length =
      rw (is_contents place s ps e) (omega (arith, prefixes_length s (walk_in s 0 (length s)).items all_passed, walk_extent s (length s) (length s) 0 (omega arith)))
