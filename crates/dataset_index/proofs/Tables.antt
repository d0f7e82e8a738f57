-- How the loop of `collect` fills its table: what is noted, and what is still to be passed.
-- Assumes nothing.
use mathlib.Core.Path.{◌≡◌, refl, sym, ap, ◌∙◌, subst}
use mathlib.Core.Bool.{Bool, true, false}
use mathlib.Core.List.{List, [], ◌∷◌}
use Prim.Native.Nat.{ℕ, suc, ◌+◌, ◌≤◌, ◌<◌}
use native.Mathlib.Omega.{arith}
use native.Mathlib.Nat.{zero-add}
use lib.Dec.{eqb}
use lib.ListN.{length, get_or, set, replicate, take, drop, length-set, get_or-replicate}
use lib.Seq.{get_or-set_same, get_or-set_other}
use borrow.Author.Tests.{eqb-true, eqb-false, eq-eqb, ne_eqb}
use Rattle.std.specs.Prelude.{Result, Ok, Err}
use Rattle.refusal.specs.Answer.{pick, Answer, given, absent, refused}
use Rattle.refusal.specs.Results.{answer_of}
use Rattle.refusal.specs.Number.{refusal_answer}
use Rattle.refusal.specs.declared.Refusal.{Refusal}
use Rattle.laws.proofs.Tests.{by_test}
use Rattle.laws.proofs.Parts.{length_part}
use Rattle.tlv.specs.Entries.{Entry, entry, clean, cut_at, Framing, done, onto, framing}
use Rattle.tlv.specs.Limits.{count}
use Rattle.tlv.specs.Place.{frame_at}
use Rattle.tlv.specs.Walk.{entries_from}
use Rattle.tlv.specs.declared.Frame.{Frame}
use Rattle.tlv.specs.declared.Frame.TheVariants as f
use Rattle.tlv.proofs.Walks.{from, Inside, inside, turn_end, turn_cut, turn_entry, turn_inside}
use Rattle.tlv.proofs.Left.{left_is, left_entry}
use Rattle.tlv_last.specs.Last.{last_of}
use Rattle.dataset_index.specs.Index.{how_many, place_or0, last_place}
use Rattle.dataset_index.specs.Loops.{Indexed, Collects}
use Rattle.dataset_index.specs.declared.Table.{Table}

-- the place of the last of es that has the type, or p where none has: the walk's own words for `last_place`
unfoldable pub later_place : (ty p : ℕ) → List Entry → ℕ
later_place ty p [] = p
later_place ty p (e ∷ es) = later_place ty (pick (eqb e.ty ty) e.place p) es

place_by : (b : Bool) (e : Entry) (best : Answer Entry) → pick b e.place (place_or0 best) ≡ place_or0 (pick b (given e) best)
place_by true e best = refl
place_by false e best = refl

later_by : (ty : ℕ) (best : Answer Entry) (es : List Entry) → later_place ty (place_or0 best) es ≡ place_or0 (last_of ty best es)
unfolding later_place last_of
later_by ty best [] = refl
later_by ty best (e ∷ es) =
    ap (λ (p : ℕ). later_place ty p es) (place_by (eqb e.ty ty) e best) ∙ later_by ty (pick (eqb e.ty ty) (given e) best) es

later_place_lem : (ty : ℕ) (es : List Entry) → later_place ty 0 es ≡ last_place ty es
unfolding last_place
later_place_lem ty es = later_by ty absent es

module _ (t : ℕ) (e : Entry) (es : List Entry) where
  pub many_hit : e.ty ≡ t → how_many t (e ∷ es) ≡ suc (how_many t es)
  unfolding how_many
  many_hit h = simp (eq-eqb _ _ h)

  pub many_miss : (e.ty ≡ t → ⊥) → how_many t (e ∷ es) ≡ how_many t es
  unfolding how_many
  many_miss h = simp (ne_eqb _ _ h)

  pub place_hit : (p : ℕ) → e.ty ≡ t → later_place t p (e ∷ es) ≡ later_place t e.place es
  unfolding later_place
  place_hit p h = simp (eq-eqb _ _ h)

  pub place_miss : (p : ℕ) → (e.ty ≡ t → ⊥) → later_place t p (e ∷ es) ≡ later_place t p es
  unfolding later_place
  place_miss p h = simp (ne_eqb _ _ h)

pub many_none : (t : ℕ) → how_many t [] ≡ 0
unfolding how_many
many_none t = refl

pub place_none : (t p : ℕ) → later_place t p [] ≡ p
unfolding later_place
place_none t p = refl

-- no type has more than all
pub many_few : (ty : ℕ) (es : List Entry) → how_many ty es ≤ length es
unfolding how_many
many_few ty [] = omega arith
many_few ty (e ∷ es) =
    let h = many_few ty es in
    by_test (eqb e.ty ty) (λ t. simp t (omega arith)) (λ t. simp t (omega arith))

-- a walk that hands out an entry, and has es left: the entry stood first at the walk's place, and es begin behind its value
module _ (s : List ℕ) (at : ℕ) (e : Entry) (es : List Entry) (h : entries_from s at ≡ e ∷ es) where
  abbrev pub Next : Type 0
  Next = (e.place ≡ at) × (at + 2 ≤ e.start) × (e.start + length e.value ≤ length s)
      × (from s at ≡ onto e (from s (e.start + length e.value))) × (entries_from s (e.start + length e.value) ≡ es)

  next_by : (g : Frame) → g ≡ frame_at s at → Next
  next_by f.End found =
      absurd (let z = ap length (sym (left_is s at ∙ ap (λ (w : Framing). w.entries) (turn_end s at f.End found refl)) ∙ h) in omega (arith, z))
  next_by f.Cut found =
      absurd (let z = ap length (sym (left_is s at ∙ ap (λ (w : Framing). w.entries) (turn_cut s at f.Cut found refl)) ∙ h) in omega (arith, z))
  next_by (f.Entry t a n) found =
      let i = turn_inside s at (f.Entry t a n) found t a n refl in
      let z : entry at t a (take n (drop a s)) ∷ entries_from s (a + n) ≡ e ∷ es = sym (left_entry s at (f.Entry t a n) found t a n refl) ∙ h in
      let same : entry at t a (take n (drop a s)) ≡ e = cc in
      let rest : entries_from s (a + n) ≡ es = cc in
      rw (← same, length_part s a n i.1) (refl, i.0, i.1, turn_entry s at (f.Entry t a n) found t a n refl, rest)

  pub next : Next
  next = next_by (frame_at s at) refl

-- a walk that hands out nothing: the bytes end at its place, or the entry there is cut
module _ (s : List ℕ) (at : ℕ) (h : entries_from s at ≡ []) where
  abbrev Ends : Type 0
  Ends = (at < length s → from s at ≡ done (cut_at at)) × (length s ≤ at → from s at ≡ done clean)

  ends_by : (g : Frame) → g ≡ frame_at s at → Ends
  ends_by f.End found =
      let i = subst (Inside s at) (sym found) (inside s at) in
      (λ k. absurd (omega (arith, i, k)), λ k. turn_end s at f.End found refl)
  ends_by f.Cut found =
      let i = subst (Inside s at) (sym found) (inside s at) in
      (λ k. turn_cut s at f.Cut found refl, λ k. absurd (omega (arith, i, k)))
  ends_by (f.Entry t a n) found =
      absurd (let z = ap length (sym (left_entry s at (f.Entry t a n) found t a n refl) ∙ h) in omega (arith, z))

  pub ends : Ends
  ends = ends_by (frame_at s at) refl

-- n entries are passed, and es are still to be
pub record Finding (c p s : List ℕ) (n : ℕ) (es : List Entry) : Type 0 where
  pub long_count : length c ≡ 256
  pub long_place : length p ≡ 256
  pub few : (t : ℕ) → t < 256 → get_or c t 0 ≤ n
  pub many : (t : ℕ) → t < 256 → get_or c t 0 + how_many t es ≡ how_many t (framing s).entries
  pub last : (t : ℕ) → t < 256 → later_place t (get_or p t 0) es ≡ last_place t (framing s).entries

pub find_start : (s : List ℕ) (es : List Entry) → es ≡ (framing s).entries → Finding (replicate 256 0) (replicate 256 0) s 0 es
find_start s es h = record {
  long_count = refl;
  long_place = refl;
  few = λ t k. rw (get_or-replicate {A = ℕ} 256 t 0 0 k) (omega arith);
  many = λ t k. rw (get_or-replicate {A = ℕ} 256 t 0 0 k, h) (zero-add _);
  last = λ t k. rw (get_or-replicate {A = ℕ} 256 t 0 0 k, h) (later_place_lem t (framing s).entries);
}

-- a turn: an entry, and after it es
module _ (c p s : List ℕ) (n : ℕ) (one : Entry) (l es : List Entry) (is : l ≡ one ∷ es) (f : Finding c p s n l) (small : one.ty < 256) where
  pub find_more : Finding (set c one.ty (get_or c one.ty 0 + 1)) (set p one.ty one.place) s (n + 1) es
  find_more =
      let x = one.ty in
      record {
        long_count = length-set c x _ ∙ f.long_count;
        long_place = length-set p x one.place ∙ f.long_place;
        few = λ t k.
            by_test (eqb t x)
            (λ e. rw (eqb-true t x e, get_or-set_same c x (get_or c x 0 + 1) 0 (rw f.long_count small)) (let b = f.few x small in omega arith))
            (λ e. rw (get_or-set_other c x t (get_or c x 0 + 1) 0 (eqb-false t x e)) (let b = f.few t k in omega arith));
        many = λ t k.
            by_test (eqb t x)
            (λ e.
            rw (eqb-true t x e)
            (rw (get_or-set_same c x (get_or c x 0 + 1) 0 (rw f.long_count small))
            (omega (arith, many_hit x one es refl, ap (how_many x) is, f.many x small))))
            (λ e.
            let q = eqb-false t x e in
            rw (get_or-set_other c x t (get_or c x 0 + 1) 0 q)
            (omega (arith, many_miss t one es (λ z. q (sym z)), ap (how_many t) is, f.many t k)));
        last = λ t k.
            by_test (eqb t x)
            (λ e.
            rw (eqb-true t x e)
            (rw (get_or-set_same p x one.place 0 (rw f.long_place small))
            (sym (place_hit x one es (get_or p x 0) refl) ∙ ap (later_place x (get_or p x 0)) (sym is) ∙ f.last x small)))
            (λ e.
            let q = eqb-false t x e in
            rw (get_or-set_other p x t one.place 0 q)
            (sym (place_miss t one es (get_or p t 0) (λ z. q (sym z))) ∙ ap (later_place t (get_or p t 0)) (sym is) ∙ f.last t k));
      }

pub find_end : (x : Table) (s : List ℕ) (n : ℕ) (es : List Entry) → es ≡ [] → Finding x.count x.place s n es → Indexed x s
find_end x s n es h f = record {
  many = λ t k.
      let z : how_many t es ≡ 0 = ap (how_many t) h ∙ many_none t in
      omega (arith, f.many t k);
  begins = λ t k. sym (place_none t (get_or x.place t 0)) ∙ ap (later_place t (get_or x.place t 0)) (sym h) ∙ f.last t k;
}

-- a refusal of the walk is the count's own
pub refuses : (s : List ℕ) (r : Result Table Refusal) (n p k : ℕ) → answer_of r ≡ refused n p k → refused n p k ≡ count 0 s → Collects s r
refuses s (Ok x) n p k a e = absurd (let z : ◌≡◌ {A = ℕ} 0 1 = cc in omega arith)
refuses s (Err r) n p k a e = let same : refusal_answer {A = ℕ} r ≡ refused n p k = cc in same ∙ e
