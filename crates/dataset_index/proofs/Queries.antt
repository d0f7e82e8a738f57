-- "a query by index equals the query by walk" (document 02, Seven), and what the steps of the query find, whatever the index.
-- Assumes nothing.
use mathlib.Core.Path.{◌≡◌, refl, sym, ap, ◌∙◌}
use mathlib.Core.Bool.{true, false}
use mathlib.Core.List.{List, [], ◌∷◌}
use Prim.Native.Nat.{ℕ, zero, suc, ◌+◌, ◌-◌, ◌*◌, ◌≤◌, ◌<◌}
use native.Mathlib.Omega.{arith}
use lib.ListN.{length, get_or, take, drop}
use lib.Seq.{get_or-drop}
use lib.Dec.{eqb, ltb}
use borrow.Author.Tests.{eq-eqb, ne_eqb, eqb-true, eqb-false, lt-ltb, le-ltb}
use Rattle.refusal.specs.Sizes.{most_bytes, most_entries}
use Rattle.refusal.specs.Answer.{pick, Answer, given, absent, refused, on_given}
use Rattle.refusal.specs.Every.{Every}
use Rattle.laws.proofs.Tests.{by_test, pick_all}
use Rattle.laws.proofs.Parts.{length_part, every_map}
use Rattle.wire_bytes.specs.Bytes.{bytes_of}
use Rattle.tlv.specs.Entries.{First, none, cut, one, first, Entry, step, frames, framing}
use Rattle.tlv.specs.Place.{frame_at}
use Rattle.tlv.specs.Limits.{framed}
use Rattle.tlv.specs.declared.Frame.{Frame}
use Rattle.tlv.specs.declared.Frame.TheVariants as f
use Rattle.tlv.proofs.Walks.{Agree, frame_agrees, Inside, inside, Lies, framing_lies}
use Rattle.tlv.proofs.Whole.{framed_whole}
use Rattle.tlv_last.specs.Last.{spot_at, spot, last_of}
use Rattle.tlv_last.specs.declared.Spot.{Spot}
use Rattle.tlv_last.proofs.Lasts.{Other, over_others, absent_none, last_holds}
use Rattle.dataset_index.specs.Index.{how_many, place_or0, last_place, slots, index_bytes, index_size}
use Rattle.dataset_index.specs.Query.{count_in, place_in, is_framed, spot_in, by_index, part_or, value_by_index}
use Rattle.dataset_index.proofs.Slots.{index_length}
use Rattle.dataset_index.proofs.Tables.{many_few}

-- the length of a value, by its place
value_length : (s : List ℕ) (at t a n t' h : ℕ) (v r : List ℕ) → Agree s at (f.Entry t a n) (one t' h v r) → a + n ≤ length s → length v ≡ n
value_length s at t a n t' h v r k i = ap length (sym k.2) ∙ length_part s a n i

-- ---- an entry is what stands at its place
abbrev Stands : List ℕ → Entry → Type 0
Stands s e = spot_in e.ty e.place (first (drop e.place s)) ≡ given (spot e)

step_stands : (s : List ℕ) (at k : ℕ) (x : First) → x ≡ first (drop at s) → Agree s at (frame_at s at) x → Inside s at (frame_at s at)
    → ((m : ℕ) → Every (Stands s) (frames k m (drop m s)).entries)
    → Every (Stands s) (step at x (λ (n : ℕ) (r : List ℕ). frames k n r)).entries
unfolding step spot_in
step_stands s at k none q a i go = tt
step_stands s at k cut q a i go = tt
step_stands s at k (one t h v r) q a i go = by (frame_at s at) a i
  where
    by : (g : Frame) → Agree s at g (one t h v r) → Inside s at g
        → Every (Stands s) (step at (one t h v r) (λ (n : ℕ) (rest : List ℕ). frames k n rest)).entries
    by f.End a i = absurd a
    by f.Cut a i = absurd a
    by (f.Entry t' b n) a i =
        let l = value_length s at t' b n t h v r a i.1 in
        let on : at + h + length v ≡ b + n = omega (arith, a.1) in
        (rw (← q) (simp (eq-eqb t t refl)), rw (on, ← a.3) (go (b + n)))

frames_stand : (fuel : ℕ) (s : List ℕ) (at : ℕ) → Every (Stands s) (frames fuel at (drop at s)).entries
unfolding frames
frames_stand zero s at = tt
frames_stand (suc k) s at = step_stands s at k (first (drop at s)) refl (frame_agrees s at) (inside s at) (λ m. frames_stand k s m)

framing_stands : (s : List ℕ) → Every (Stands s) (framing s).entries
unfolding framing
framing_stands s = frames_stand (length s) s 0

-- ---- what a type's slot holds
drop_slots : (k n t : ℕ) (es : List Entry) → k ≤ n → drop (4 * k) (slots t n es) ≡ slots (t + k) (n - k) es
unfolding slots bytes_of
drop_slots zero n t es h =
    let z : t + zero ≡ t = omega arith in
    let a : 4 * zero ≡ zero = omega arith in
    let b : n - zero ≡ n = omega arith in
    rw (z, a, b)
drop_slots (suc k) zero t es h = absurd (omega arith)
drop_slots (suc k) (suc n) t es h =
    let z : 4 * suc k ≡ suc (suc (suc (suc (4 * k)))) = omega arith in
    let y : t + suc k ≡ suc t + k = omega arith in
    let x : suc n - suc k ≡ n - k = omega arith in
    rw (z, y, x) (drop_slots k n (suc t) es (omega arith))

slot_at : (ty j : ℕ) (es : List Entry) → ty < 256 → get_or (index_bytes es) (2 + 4 * ty + j) 0 ≡ get_or (slots ty (256 - ty) es) j 0
unfolding index_bytes
slot_at ty j es h =
    let z : 2 + 4 * ty + j ≡ suc (suc (4 * ty + j)) = omega arith in
    let y : 0 + ty ≡ ty = omega arith in
    rw z (sym (get_or-drop (4 * ty) (slots 0 256 es) j 0) ∙ rw (drop_slots ty 256 0 es (omega arith), y))

slot_first : (ty n : ℕ) (es : List Entry) → 0 < n → how_many ty es < 65536 → last_place ty es < 65536
    → (get_or (slots ty n es) 0 0 * 256 + get_or (slots ty n es) 1 0 ≡ how_many ty es) × (get_or (slots ty n es) 2 0 * 256 + get_or (slots ty n es) 3 0 ≡ last_place ty es)
unfolding slots bytes_of
slot_first ty zero es h k l = absurd (omega arith)
slot_first ty (suc n) es h k l = (omega arith, omega arith)

module _ (ty : ℕ) (es : List Entry) (small : ty < 256) (few : how_many ty es < 65536) (near : last_place ty es < 65536) where
  count_read : count_in (index_bytes es) ty ≡ how_many ty es
  count_read =
      let z : 2 + 4 * ty ≡ 2 + 4 * ty + 0 = omega arith in
      let a = ap (λ (k : ℕ). get_or (index_bytes es) k 0) z ∙ slot_at ty 0 es small in
      let b = slot_at ty 1 es small in
      rw (a, b) (slot_first ty (256 - ty) es (omega arith) few near).0

  place_read : place_in (index_bytes es) ty ≡ last_place ty es
  place_read =
      let z : 2 + 4 * ty + 2 + 1 ≡ 2 + 4 * ty + 3 = omega arith in
      let a = slot_at ty 2 es small in
      let b = ap (λ (k : ℕ). get_or (index_bytes es) k 0) z ∙ slot_at ty 3 es small in
      rw (a, b) (slot_first ty (256 - ty) es (omega arith) few near).1

-- ---- the last entry of a type, and how many there are
abbrev Fits : (ty : ℕ) → List ℕ → Answer Entry → Type 0
Fits ty s (given e) = (e.ty ≡ ty) × Stands s e
Fits ty s absent = Unit {0}
Fits ty s (refused n q i) = ⊥

last_fits : (ty : ℕ) (s : List ℕ) (es : List Entry) → Every (Stands s) es → Fits ty s (last_of ty absent es)
last_fits ty s es h = last_holds (Fits ty s) ty absent es tt (every_map _ _ (λ e stands t. (t, stands)) es h)

-- the count is 0 exactly where no entry has the type
none_counted : (ty : ℕ) (es : List Entry) → how_many ty es ≡ 0 → Every (Other ty) es
unfolding how_many
none_counted ty [] h = tt
none_counted ty (e ∷ es) h =
    by_test (eqb e.ty ty)
    (λ t. absurd (let z : suc (how_many ty es) ≡ 0 = simp t at h in omega arith))
    (λ t. (eqb-false _ _ t, none_counted ty es (simp t at h)))

counted_none : (ty : ℕ) (es : List Entry) → Every (Other ty) es → how_many ty es ≡ 0
unfolding how_many
counted_none ty [] h = refl
counted_none ty (e ∷ es) h = rw (ne_eqb e.ty ty h.0) (counted_none ty es h.1)

-- ---- counts and places fit two bytes, whatever the sizes are that a dataset may have, while these are below 65,536
place_near : (ty : ℕ) (s : List ℕ) (es : List Entry) → Every (Lies s) es → place_or0 (last_of ty absent es) ≤ length s
place_near ty s es h =
    last_holds (λ (x : Answer Entry). place_or0 x ≤ length s) ty absent es (omega arith) (every_map _ _ (λ e lies t. omega (arith, lies)) es h)

module _ (s : List ℕ) (es : List Entry) (fine : framed 0 s ≡ given es) where
  pub given_are : (framing s).entries ≡ es
  unfolding framed
  given_are = (framed_whole most_bytes most_entries 0 s es fine).are

  pub given_short : length s ≤ most_bytes
  unfolding framed
  given_short = (framed_whole most_bytes most_entries 0 s es fine).short

  module _ (ty : ℕ) where
    pub count_fits : how_many ty es ≤ most_entries
    unfolding framed
    count_fits = omega (arith, many_few ty es, (framed_whole most_bytes most_entries 0 s es fine).few)

    pub place_fits : last_place ty es ≤ most_bytes
    unfolding last_place
    place_fits =
        omega (arith, given_short, place_near ty s es (rw given_are at (framing_lies s)))

    module _ (small : ty < 256) where
      pub stored_count : count_in (index_bytes es) ty ≡ how_many ty es
      stored_count = count_read ty es small (omega (arith, count_fits)) (omega (arith, place_fits))

      pub stored_place : place_in (index_bytes es) ty ≡ last_place ty es
      stored_place = place_read ty es small (omega (arith, count_fits)) (omega (arith, place_fits))

-- ---- THE LAW
pub index_framed : (es : List Entry) → is_framed (index_bytes es) ≡ true
unfolding is_framed index_bytes
index_framed es = rw (eq-eqb (length (index_bytes es)) index_size (index_length es)) refl

there_by : (ty : ℕ) (s : List ℕ) (x : Answer Entry) → Fits ty s x → (x ≡ absent → ⊥)
    → spot_in ty (place_or0 x) (first (drop (place_or0 x) s)) ≡ on_given spot x
there_by ty s (given e) h t = rw (← h.0) h.1
there_by ty s absent h t = absurd (t refl)
there_by ty s (refused n q i) h t = absurd h

-- of a dataset that is framed within the sizes, the query by its index is the query by walk
pub found_by_index : (ty : ℕ) (s : List ℕ) (es : List Entry) → ty < 256 → framed 0 s ≡ given es → by_index ty s (index_bytes es) ≡ on_given spot (last_of ty absent es)
unfolding by_index last_place
found_by_index ty s es small fine =
    rw (le-ltb _ _ (given_short s es fine), index_framed es, stored_count s es fine ty small, stored_place s es fine ty small)
    (by_test (eqb (how_many ty es) 0)
    (λ t. rw (t, over_others ty absent es (none_counted ty es (eqb-true _ _ t))))
    (λ t.
    rw t
    (there_by ty s (last_of ty absent es) (last_fits ty s es (rw (given_are s es fine) at (framing_stands s)))
    (λ z. eqb-false _ _ t (counted_none ty es (absent_none ty es z))))))

-- ---- what the code's steps find: an entry at a place,
module _ (ty p : ℕ) (s : List ℕ) (r : Frame) (found : r ≡ frame_at s p) where
  agreed : Agree s p r (first (drop p s))
  agreed = rw (sym found) at (frame_agrees s p)

  module _ (t a n : ℕ) (e : r ≡ f.Entry t a n) where
    spot_by : (x : First) → Agree s p (f.Entry t a n) x → a + n ≤ length s
        → spot_in ty p x ≡ pick (eqb t ty) (given (spot_at p a n)) (refused 17 0 1)
    unfolding spot_in
    spot_by none k i = absurd k
    spot_by cut k i = absurd k
    spot_by (one t' h v rest) k i =
        let l = value_length s p t a n t' h v rest k i in
        rw (l, ← k.0, ← k.1)

    stood : spot_in ty p (first (drop p s)) ≡ pick (eqb t ty) (given (spot_at p a n)) (refused 17 0 1)
    stood =
        let here : frame_at s p ≡ f.Entry t a n = sym found ∙ e in
        spot_by (first (drop p s)) (rw e at agreed) (rw here at (inside s p)).1

    pub entry_hit : t ≡ ty → given (spot_at p a n) ≡ spot_in ty p (first (drop p s))
    entry_hit h = sym (stood ∙ simp (eq-eqb _ _ h))

    pub entry_miss : (t ≡ ty → ⊥) → refused 17 0 1 ≡ spot_in ty p (first (drop p s))
    entry_miss h = sym (stood ∙ simp (ne_eqb _ _ h))

  cut_by : (x : First) → Agree s p f.Cut x → refused 17 0 1 ≡ spot_in ty p x
  unfolding spot_in
  cut_by none a = refl
  cut_by cut a = refl
  cut_by (one t h v rest) a = absurd a

  end_by : (x : First) → Agree s p f.End x → refused 17 0 1 ≡ spot_in ty p x
  unfolding spot_in
  end_by none a = refl
  end_by cut a = refl
  end_by (one t h v rest) a = absurd a

  pub entry_cut : r ≡ f.Cut → refused 17 0 1 ≡ spot_in ty p (first (drop p s))
  entry_cut e = cut_by (first (drop p s)) (rw e at agreed)

  pub entry_end : r ≡ f.End → refused 17 0 1 ≡ spot_in ty p (first (drop p s))
  entry_end e = end_by (first (drop p s)) (rw e at agreed)

-- an index that is framed or is not,
module _ (x : List ℕ) where
  pub framed_long : is_framed x ≡ true → length x ≡ index_size
  unfolding is_framed
  framed_long h =
      by_test (eqb (length x) index_size) (λ t. eqb-true _ _ t)
      (λ t. absurd (let k : false ≡ true = simp t at h in let z : ◌≡◌ {A = ℕ} 0 1 = cc in omega arith))

  pub other_length : (length x ≡ index_size → ⊥) → false ≡ is_framed x
  unfolding is_framed
  other_length h = rw (ne_eqb (length x) index_size h)

  module _ (long : length x ≡ index_size) where
    pub other_mark : (get_or x 0 0 ≡ 0x49 → ⊥) → false ≡ is_framed x
    unfolding is_framed
    other_mark h = rw (eq-eqb (length x) index_size long, ne_eqb (get_or x 0 0) 0x49 h)

    pub second_mark : get_or x 0 0 ≡ 0x49 → eqb (get_or x 1 0) 0x58 ≡ is_framed x
    unfolding is_framed
    second_mark h = rw (eq-eqb (length x) index_size long, eq-eqb (get_or x 0 0) 0x49 h)

-- and the whole query
module _ (ty : ℕ) (s x : List ℕ) where
  pub query_large : most_bytes < length s → refused 1 0 0 ≡ by_index ty s x
  unfolding by_index
  query_large h = rw (lt-ltb _ _ h)

  module _ (short : length s ≤ most_bytes) where
    pub query_misframed : is_framed x ≡ false → refused 17 0 1 ≡ by_index ty s x
    unfolding by_index
    query_misframed h = rw (le-ltb _ _ short, h)

    module _ (fine : is_framed x ≡ true) where
      pub query_absent : count_in x ty ≡ 0 → absent ≡ by_index ty s x
      unfolding by_index
      query_absent h = rw (le-ltb _ _ short, fine, eq-eqb (count_in x ty) 0 h)

      pub query_led : (count_in x ty ≡ 0 → ⊥) → spot_in ty (place_in x ty) (first (drop (place_in x ty) s)) ≡ by_index ty s x
      unfolding by_index
      query_led h = rw (le-ltb _ _ short, fine, ne_eqb (count_in x ty) 0 h)

-- ---- what is found lies within the dataset
abbrev Within : List ℕ → Answer Spot → Type 0
Within s (given e) = e.start + e.len ≤ length s
Within s absent = Unit {0}
Within s (refused n p i) = Unit {0}

module _ (ty p : ℕ) (s : List ℕ) where
  within_by : (g : Frame) (x : First) → Agree s p g x → Inside s p g → Within s (spot_in ty p x)
  unfolding spot_in
  within_by g none a i = tt
  within_by g cut a i = tt
  within_by f.End (one t h v rest) a i = absurd a
  within_by f.Cut (one t h v rest) a i = absurd a
  within_by (f.Entry t b n) (one t' h v rest) a i =
      let l = value_length s p t b n t' h v rest a i.1 in
      pick_all (Within s) (eqb t' ty) _ _ (λ e. omega (arith, a.1, i.1)) (λ e. tt)

  spot_within : Within s (spot_in ty p (first (drop p s)))
  spot_within = within_by (frame_at s p) (first (drop p s)) (frame_agrees s p) (inside s p)

query_within : (ty : ℕ) (s x : List ℕ) → Within s (by_index ty s x)
unfolding by_index
query_within ty s x =
    pick_all (Within s) (ltb most_bytes (length s)) _ _ (λ e. tt) (λ e.
    pick_all (Within s) (is_framed x) _ _
    (λ t. pick_all (Within s) (eqb (count_in x ty) 0) _ _ (λ u. tt) (λ u. spot_within ty (place_in x ty) s))
    (λ t. tt))

module _ (ty : ℕ) (s x : List ℕ) where
  pub value_inside : (p a n : ℕ) → given (spot_at p a n) ≡ by_index ty s x → a + n ≤ length s
  value_inside p a n e = rw (sym e) at (query_within ty s x)

  pub value_part : (p a n : ℕ) → given (spot_at p a n) ≡ by_index ty s x → take n (drop a s) ≡ value_by_index ty s x
  unfolding value_by_index
  value_part p a n e = ap (part_or s) e

  none_part : (y : Answer Spot) → ((e : Spot) → y ≡ given e → ⊥) → [] ≡ part_or s y
  none_part (given e) h = absurd (h e refl)
  none_part absent h = refl
  none_part (refused n p i) h = refl

  pub value_none : (y : Answer Spot) → y ≡ by_index ty s x → ((e : Spot) → y ≡ given e → ⊥) → [] ≡ value_by_index ty s x
  unfolding value_by_index
  value_none y e h = none_part y h ∙ ap (part_or s) e
