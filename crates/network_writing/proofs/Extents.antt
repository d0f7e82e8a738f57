-- How many bytes TLVs take: those of a walk no more than stand there, and rows of several TLVs in one, or the last of several contexts, no more than those.
-- Assumes nothing.
use mathlib.Core.Path.{◌≡◌, refl, ap, ◌∙◌}
use mathlib.Core.Bool.{Bool, true}
use mathlib.Core.List.{List, [], ◌∷◌}
use Prim.Native.Nat.{ℕ, zero, suc, ◌+◌, ◌-◌, ◌*◌, ◌/◌, ◌%◌, ◌≤◌, ◌<◌}
use native.Mathlib.Omega.{arith}
use native.Mathlib.Nat.{zero-add}
use lib.ListN.{length, get_or, length-append}
use lib.Dec.{eqb, leb, ltb}
use borrow.Author.Tests.{eqb-true, le-leb, ne_eqb}
use Rattle.refusal.specs.Every.{Every, Bytes}
use Rattle.refusal.specs.Answer.{pick, Answer, given}
use Rattle.refusal.specs.Each.{joined}
use Rattle.laws.proofs.Tests.{by_test, pick_all}
use Rattle.laws.proofs.Joined.{joined_length}
use Rattle.network_framing.specs.Tlvs.{Piece}
use Rattle.network_framing.specs.Frame.{walk_in}
use Rattle.network_framing.specs.Place.{sub_place}
use Rattle.network_framing.specs.declared.SubTlv.{SubTlv}
use Rattle.network_framing.specs.declared.SubTlv.TheVariants.{Item as Framed, Cut, End}
use Rattle.network_framing.proofs.Walks.{Inside, inside, step_by, walk_step, walk_end}
use Rattle.network_data.specs.Decode.{context_at, row_places, places_in, last_context}
use Rattle.network_data.specs.declared.SixLowPanContext.{SixLowPanContext}
use Rattle.network_data.proofs.Counted.{places_length}
use Rattle.network_writing.specs.Encode.{item, items_bytes, row_items, context_items}
use Rattle.network_writing.specs.Fits.{most_item, context_fits}
use Rattle.network_writing.proofs.Items.{length_items}

pub byte_below : (s : List ℕ) (k : ℕ) → Bytes s → get_or s k 0 < 256
byte_below [] k b = omega arith
byte_below (x ∷ s) zero b = b.0
byte_below (x ∷ s) (suc k) b = byte_below s k b.1

-- ---- TLVs of a walk lie one after the other, and their lengths are bytes

-- the bytes that TLVs take, and those that TLVs of a type do
unfoldable pub extent : List Piece → ℕ
extent [] = 0
extent (e ∷ es) = 2 + e.len + extent es

unfoldable pub share : ℕ → List Piece → ℕ
share ty [] = 0
share ty (e ∷ es) = pick (eqb e.ty ty) (2 + e.len) 0 + share ty es

module _ (s : List ℕ) (end : ℕ) where
  extent_by : (at : ℕ) (r : SubTlv) → Inside at end r → ((next : ℕ) → at + 2 ≤ next → next ≤ end → extent (walk_in s next end).items ≤ end - next)
      → extent (step_by r (λ k. walk_in s k end)).items ≤ end - at
  unfolding extent step_by
  extent_by at End i f = omega arith
  extent_by at Cut i f = omega arith
  extent_by at (Framed t a n) i f = omega (arith, f (a + n) (omega arith) i.1)

  pub walk_extent : (fuel at : ℕ) → end - at ≤ fuel → extent (walk_in s at end).items ≤ end - at
  unfolding extent
  walk_extent zero at h = rw (walk_end s at end (omega arith)) (omega arith)
  walk_extent (suc k) at h =
      rw (walk_step s at end) (extent_by at (sub_place s at end) (inside s at end) (λ next l m. walk_extent k next (omega arith)))

  -- a TLV lies before the end, and its length is a byte
  abbrev pub Lies : Piece → Type 0
  Lies e = (e.start + e.len ≤ end) × (e.len ≤ most_item)

  abbrev SmallItem : SubTlv → Type 0
  SmallItem End = Unit {0}
  SmallItem Cut = Unit {0}
  SmallItem (Framed t a n) = n ≤ most_item

  small_item : Bytes s → (at : ℕ) → SmallItem (sub_place s at end)
  unfolding sub_place
  small_item b at =
      pick_all SmallItem (leb end at) End _ (λ e. tt)
      (λ e. pick_all SmallItem (ltb (length s) end) Cut _ (λ f. tt)
      (λ f. pick_all SmallItem (ltb (end - at) 2) Cut _ (λ g. tt)
      (λ g. pick_all SmallItem (leb (get_or s (at + 1) 0) (end - (at + 2))) _ Cut (λ h. let k = byte_below s (at + 1) b in omega arith) (λ h. tt))))

  lies_by : (at : ℕ) (r : SubTlv) → Inside at end r → SmallItem r → ((next : ℕ) → at + 2 ≤ next → next ≤ end → Every Lies (walk_in s next end).items)
      → Every Lies (step_by r (λ k. walk_in s k end)).items
  unfolding step_by
  lies_by at End i b f = tt
  lies_by at Cut i b f = tt
  lies_by at (Framed t a n) i b f = ((i.1, b), f (a + n) (omega arith) i.1)

  pub walk_lies : Bytes s → (fuel at : ℕ) → end - at ≤ fuel → Every Lies (walk_in s at end).items
  walk_lies b zero at h = rw (walk_end s at end (omega arith)) tt
  walk_lies b (suc k) at h =
      rw (walk_step s at end) (lies_by at (sub_place s at end) (inside s at end) (small_item b at) (λ next l m. walk_lies b k next (omega arith)))

-- TLVs of three types take no more than all do
pub three_shares : (es : List Piece) → share 0 es + (share 2 es + share 3 es) ≤ extent es
unfolding share extent
three_shares [] = omega arith
three_shares (e ∷ es) =
    let go = three_shares es in
    by_test (eqb e.ty 0)
    (λ t.
    let zero = eqb-true e.ty 0 t in
    rw (t, ne_eqb e.ty 2 (λ q. absurd (omega arith)), ne_eqb e.ty 3 (λ q. absurd (omega arith))) (omega arith))
    (λ t. by_test (eqb e.ty 2)
    (λ u.
    let two = eqb-true e.ty 2 u in
    rw (t, u, ne_eqb e.ty 3 (λ q. absurd (omega arith))) (omega arith))
    (λ u. by_test (eqb e.ty 3) (λ x. rw (t, u, x) (omega arith)) (λ x. rw (t, u, x) (omega arith))))

-- ---- rows that were gathered from several TLVs, in one: no longer

-- the bytes that n rows take in a TLV, "none where it has no rows"
abbrev pub taken : (n bytes : ℕ) → ℕ
taken n bytes = pick (eqb n 0) 0 (2 + bytes)

module _ (ty size : ℕ) (whole : (len m : ℕ) → (len / size + m) * size ≤ len + m * size) where
  taken_least : (n x : ℕ) → taken n (n * size) ≤ x → n * size ≤ x
  taken_least n x h =
      by_test (eqb n 0)
      (λ t. rw (eqb-true n 0 t) (omega arith))
      (λ t. let k : 2 + n * size ≤ x = rw t at h in omega arith)

  places_more : (e : Piece) (es : List Piece) → length (places_in ty size (e ∷ es)) ≡ pick (eqb e.ty ty) (e.len / size) 0 + length (places_in ty size es)
  unfolding places_in
  places_more e es =
      by_test (eqb e.ty ty)
      (λ t. rw t (length-append (row_places size e.start (e.len / size)) (places_in ty size es) ∙ rw (places_length size e.start (e.len / size))))
      (λ t. rw t (omega arith))

  no_places : places_in ty size [] ≡ []
  unfolding places_in
  no_places = refl

  pub rows_share : (es : List Piece) → taken (length (places_in ty size es)) (length (places_in ty size es) * size) ≤ share ty es
  unfolding share
  rows_share [] = rw no_places (omega arith)
  rows_share (e ∷ es) =
      let n = length (places_in ty size es) in
      let go = taken_least n (share ty es) (rows_share es) in
      by_test (eqb e.ty ty)
      (λ t.
      let more = places_more e es ∙ ap (λ (b : Bool). pick b (e.len / size) 0 + n) t in
      rw (more, t) (pick_all (λ (x : ℕ). x ≤ 2 + e.len + share ty es) (eqb (e.len / size + n) 0) 0 _ (λ u. omega arith) (λ u. omega (arith, whole e.len n))))
      (λ t. rw (places_more e es, t) (simp zero-add (rows_share es)))

pub no_items : length (items_bytes []) ≡ 0
unfolding joined
no_items = refl

pub rows_size : {A : Type 0} (mark size : ℕ) (f : A → List ℕ) → ((x : A) → length (f x) ≡ size) → (xs : List A)
    → length (items_bytes (row_items mark f xs)) ≡ taken (length xs) (length xs * size)
unfolding row_items
rows_size mark size f k [] = no_items
rows_size mark size f k (x ∷ xs) =
    rw (ne_eqb (length (x ∷ xs)) 0 (λ e. absurd (omega arith))) (length_items (item mark (joined f (x ∷ xs))) [] ∙ omega (arith, no_items, joined_length size f k (x ∷ xs)))

-- ---- the last of several contexts
module _ (s : List ℕ) where
  pub context_share : (es : List Piece) (x : Answer SixLowPanContext) → length (items_bytes (context_items (last_context s x es))) ≤ length (items_bytes (context_items x)) + share 3 es
  unfolding last_context share joined context_items
  context_share [] x = omega arith
  context_share (e ∷ es) x =
      by_test (eqb e.ty 3)
      (λ t. by_test (eqb e.len 2)
      (λ u.
      let two = eqb-true e.len 2 u in
      let c = context_at s e.start in
      let z = one_context c in
      rw (t, u) (omega (arith, context_share es (given c))))
      (λ u. rw (t, u) (omega (arith, context_share es x))))
      (λ t. rw t (omega (arith, context_share es x)))
    where
      one_context : (c : SixLowPanContext) → length (items_bytes (context_items (given c))) ≡ 4
      one_context c = refl

  pub context_fits_lem : (es : List Piece) (x : Answer SixLowPanContext) → context_fits x ≡ true → context_fits (last_context s x es) ≡ true
  unfolding last_context context_fits
  context_fits_lem [] x h = h
  context_fits_lem (e ∷ es) x h =
      context_fits_lem es (pick (eqb e.ty 3) (pick (eqb e.len 2) (given (context_at s e.start)) x) x)
      (pick_all (λ (y : Answer SixLowPanContext). context_fits y ≡ true) (eqb e.ty 3) _ x
      (λ t. pick_all (λ (y : Answer SixLowPanContext). context_fits y ≡ true) (eqb e.len 2) (given (context_at s e.start)) x
      (λ u. le-leb (get_or s e.start 0 % 16) 15 (omega arith)) (λ u. h)) (λ t. h))
