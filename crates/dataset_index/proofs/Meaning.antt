-- What the index says, held against request Seven's sentences.
-- Assumes nothing.
use mathlib.Core.Path.{◌≡◌, refl, sym, ap, ◌∙◌, subst}
use mathlib.Core.Bool.{true, false}
use mathlib.Core.List.{List, [], ◌∷◌, map}
use Prim.Native.Nat.{ℕ, zero, suc, ◌+◌, ◌<◌}
use native.Mathlib.Omega.{arith}
use lib.ListN.{length, drop}
use lib.Dec.{eqb, ltb}
use borrow.Author.Tests.{eqb-true}
use Rattle.refusal.specs.Sizes.{most_bytes, most_entries}
use Rattle.refusal.specs.Answer.{pick, Answer, given, absent, refused, on_given, then_do}
use Rattle.refusal.specs.Each.{same}
use Rattle.laws.proofs.Tests.{by_test, pick_all}
use Rattle.laws.proofs.Same.{same_self, same_true, same_not}
use Rattle.laws.proofs.Answers.{gives}
use Rattle.tlv.specs.Entries.{First, none, cut, one, first, Entry, clean, framing}
use Rattle.tlv.specs.Limits.{place_of_next, limited, framed}
use Rattle.tlv.specs.Answers.{header_of}
use Rattle.tlv.proofs.Follows.{Beside, framing_follows, headers_beside, headers_take, whole_length}
use Rattle.tlv_last.specs.Last.{spot_at, spot, last_of, last_entry, last_spot, last_value}
use Rattle.tlv_last.specs.declared.Spot.{Spot}
use Rattle.tlv_last.proofs.Lasts.{found_all, spot_part, spot_none}
use Rattle.dataset_index.specs.Index.{how_many, place_or0, last_place, slots, index_bytes, built, loaded}
use Rattle.dataset_index.specs.Query.{count_in, place_in, is_framed, spot_in, by_index, part_or, value_by_index}
use Rattle.dataset_index.proofs.Queries.{given_are, stored_count, stored_place, index_framed, found_by_index}

-- ---- what loads
module _ (s x : List ℕ) where
  -- what `load` accepts is the stored form of what `build` gives,
  pub load_exactly : loaded s x ≡ given tt → built s ≡ given x
  unfolding loaded
  load_exactly h = by (built s) refl h
    where
      by : (a : Answer (List ℕ)) → built s ≡ a
          → ◌≡◌ {A = Answer (Unit {0})} (then_do a (λ (ix : List ℕ). pick (same ix x) (given (tt {0})) (refused 17 0 1))) (given (tt {0})) → built s ≡ given x
      by (given ix) e k =
          by_test (same ix x)
          (λ t. e ∙ ap given (same_true ix x t))
          (λ t. absurd (let z : ◌≡◌ {A = Answer (Unit {0})} (refused 17 0 1) (given (tt {0})) = simp t at k in let z : ◌≡◌ {A = ℕ} 0 1 = cc in omega arith))
      by absent e k = absurd (let z : ◌≡◌ {A = ℕ} 0 1 = cc in omega arith)
      by (refused n p i) e k = absurd (let z : ◌≡◌ {A = ℕ} 0 1 = cc in omega arith)

  -- and that is accepted;
  pub stored_loads : built s ≡ given x → loaded s x ≡ given tt
  unfolding loaded
  stored_loads e = rw (e, same_self x)

  -- all faults of the dataset come first,
  pub dataset_refused : (n p i : ℕ) → built s ≡ refused n p i → loaded s x ≡ refused n p i
  unfolding loaded
  dataset_refused n p i e = rw e

  -- and where it has none, any other bytes are refused with 17,
  pub another_refused : (ix : List ℕ) → built s ≡ given ix → (ix ≡ x → ⊥) → loaded s x ≡ refused 17 0 1
  unfolding loaded
  another_refused ix e h = rw (e, same_not ix x h)

  -- those of another length or mark among them
  pub misframed_refused : (ix : List ℕ) → built s ≡ given ix → is_framed x ≡ false → loaded s x ≡ refused 17 0 1
  unfolding built
  misframed_refused ix e h =
      let g = gives index_bytes (framed 0 s) ix e in
      another_refused ix e
      (λ same.
      let z : true ≡ false = sym (index_framed g.one) ∙ ap is_framed (g.so ∙ same) ∙ h in
      let z : ◌≡◌ {A = ℕ} 0 1 = cc in
      omega arith)

  -- ---- store, then load: the index is given back, and a query by it is the query by walk
  module _ (loads : loaded s x ≡ given tt) where
    held : (P : List ℕ → Type 0) → ((es : List Entry) → framed 0 s ≡ given es → P (index_bytes es)) → P x
    unfolding built
    held P each = let g = gives index_bytes (framed 0 s) x (load_exactly loads) in subst P g.so (each g.one g.is)

    module _ (ty : ℕ) (small : ty < 256) where
      pub count_back : count_in x ty ≡ how_many ty (framing s).entries
      count_back =
          held (λ (y : List ℕ). count_in y ty ≡ how_many ty (framing s).entries)
          (λ es e. stored_count s es e ty small ∙ ap (how_many ty) (sym (given_are s es e)))

      pub place_back : place_in x ty ≡ last_place ty (framing s).entries
      place_back =
          held (λ (y : List ℕ). place_in y ty ≡ last_place ty (framing s).entries)
          (λ es e. stored_place s es e ty small ∙ ap (last_place ty) (sym (given_are s es e)))

      pub by_index_lem : by_index ty s x ≡ last_spot ty 0 s
      unfolding last_spot last_entry
      by_index_lem = held (λ (y : List ℕ). by_index ty s y ≡ on_given spot (then_do (framed 0 s) (last_of ty absent))) (λ es e. found_by_index ty s es small e ∙ rw e)

      pub value_by_index_lem : value_by_index ty s x ≡ last_value ty s
      unfolding value_by_index
      value_by_index_lem = ap (part_or s) by_index_lem ∙ part_is (last_spot ty 0 s) refl
        where
          part_is : (y : Answer Spot) → y ≡ last_spot ty 0 s → part_or s y ≡ last_value ty s
          part_is (given e) h = (spot_part s ty e.place e.start e.len h).1
          part_is absent h = sym (spot_none s ty absent h (λ e k. let z : ◌≡◌ {A = ℕ} 0 1 = cc in omega arith))
          part_is (refused n p i) h = sym (spot_none s ty (refused n p i) h (λ e k. let z : ◌≡◌ {A = ℕ} 0 1 = cc in omega arith))

-- an entry, or none
abbrev Calm : Answer Entry → Type 0
Calm (given e) = Unit {0}
Calm absent = Unit {0}
Calm (refused n p i) = ⊥

calm_not : (x : Answer Entry) → Calm x → (n p i : ℕ) → on_given spot x ≡ refused n p i → ⊥
calm_not (given e) c n p i h = let z : ◌≡◌ {A = ℕ} 0 1 = cc in omega arith
calm_not absent c n p i h = let z : ◌≡◌ {A = ℕ} 0 1 = cc in omega arith
calm_not (refused m q j) c n p i h = absurd c

-- so that a refusal says that the index is not the dataset's
pub refused_stale : (ty : ℕ) (s x : List ℕ) → ty < 256 → (n p i : ℕ) → by_index ty s x ≡ refused n p i → loaded s x ≡ given tt → ⊥
refused_stale ty s x small n p i e loads =
    held s x loads (λ (y : List ℕ). by_index ty s y ≡ refused n p i → ⊥)
    (λ es fine k. calm_not (last_of ty absent es) (found_all Calm (λ a. tt) ty absent es tt) n p i (sym (found_by_index ty s es small fine) ∙ k)) e

-- for every list of bytes, refusals too: what is built and then asked is what the walk answers
pub built_then_asked : (ty : ℕ) (s : List ℕ) → ty < 256 → then_do (built s) (by_index ty s) ≡ last_spot ty 0 s
unfolding built last_spot last_entry
built_then_asked ty s small = by (framed 0 s) refl
  where
    by : (a : Answer (List Entry)) → framed 0 s ≡ a → then_do (on_given index_bytes a) (by_index ty s) ≡ on_given spot (then_do a (last_of ty absent))
    by (given es) e = found_by_index ty s es small e
    by absent e = refl
    by (refused n p i) e = refl

-- ---- any index whatever: what a query hands out is an entry of the type, which begins at the place that the index has for it
pub record Begins (ty : ℕ) (s x : List ℕ) (p a n : ℕ) : Type 0 where
  pub named : p ≡ place_in x ty
  pub header : ℕ
  pub value : List ℕ
  pub rest : List ℕ
  pub stands : first (drop p s) ≡ one ty header value rest
  pub starts : a ≡ p + header
  pub long : n ≡ length value

module _ (ty : ℕ) (s x : List ℕ) where
  abbrev IfFound : Answer Spot → Type 0
  IfFound (given e) = Begins ty s x e.place e.start e.len
  IfFound absent = Unit {0}
  IfFound (refused n p i) = Unit {0}

  begins_by : (y : First) → first (drop (place_in x ty) s) ≡ y → IfFound (spot_in ty (place_in x ty) y)
  unfolding spot_in
  begins_by none e = tt
  begins_by cut e = tt
  begins_by (one t h v rest) e =
      pick_all IfFound (eqb t ty) _ _
      (λ k. record { named = refl; header = h; value = v; rest = rest; stands = e ∙ rw (eqb-true t ty k); starts = refl; long = refl }) (λ k. tt)

  pub never_another : (p a n : ℕ) → by_index ty s x ≡ given (spot_at p a n) → Begins ty s x p a n
  unfolding by_index
  never_another p a n e =
      subst IfFound e
      (pick_all IfFound (ltb most_bytes (length s)) _ _ (λ k. tt) (λ k.
      pick_all IfFound (is_framed x) _ _
      (λ t. pick_all IfFound (eqb (count_in x ty) 0) _ _ (λ u. tt) (λ u. begins_by (first (drop (place_in x ty) s)) refl))
      (λ t. tt)))

-- ---- "the same headers in the same order" give the same index, or the same refusal
many_beside : (ty : ℕ) (es fs : List Entry) → Beside es fs → how_many ty es ≡ how_many ty fs
unfolding how_many
many_beside ty [] [] h = refl
many_beside ty [] (f ∷ fs) h = absurd h
many_beside ty (e ∷ es) [] h = absurd h
many_beside ty (e ∷ es) (f ∷ fs) h = rw (h.0, many_beside ty es fs h.2)

place_beside : (ty : ℕ) (x y : Answer Entry) (es fs : List Entry) → place_or0 x ≡ place_or0 y → Beside es fs → place_or0 (last_of ty x es) ≡ place_or0 (last_of ty y fs)
unfolding last_of
place_beside ty x y [] [] k h = k
place_beside ty x y [] (f ∷ fs) k h = absurd h
place_beside ty x y (e ∷ es) [] k h = absurd h
place_beside ty x y (e ∷ es) (f ∷ fs) k h =
    place_beside ty (pick (eqb e.ty ty) (given e) x) (pick (eqb f.ty ty) (given f) y) es fs
    (rw h.0 (by_test (eqb f.ty ty) (λ t. simp t h.1) (λ t. simp t k))) h.2

slots_beside : (n t : ℕ) (es fs : List Entry) → Beside es fs → slots t n es ≡ slots t n fs
unfolding slots last_place
slots_beside zero t es fs h = refl
slots_beside (suc n) t es fs h = rw (many_beside t es fs h, place_beside t absent absent es fs refl h, slots_beside n (suc t) es fs h)

length_beside : (es fs : List Entry) → Beside es fs → length es ≡ length fs
length_beside [] [] h = refl
length_beside [] (f ∷ fs) h = absurd h
length_beside (e ∷ es) [] h = absurd h
length_beside (e ∷ es) (f ∷ fs) h = ap suc (length_beside es fs h.2)

next_beside : (k : ℕ) (es fs : List Entry) → Beside es fs → place_of_next k es ≡ place_of_next k fs
next_beside k [] [] h = refl
next_beside k [] (f ∷ fs) h = absurd h
next_beside k (e ∷ es) [] h = absurd h
next_beside zero (e ∷ es) (f ∷ fs) h = h.1
next_beside (suc k) (e ∷ es) (f ∷ fs) h = next_beside k es fs h.2

index_beside : (es fs : List Entry) → Beside es fs → on_given index_bytes (limited most_entries 0 clean es) ≡ on_given index_bytes (limited most_entries 0 clean fs)
unfolding limited index_bytes
index_beside es fs h =
    rw (length_beside es fs h, next_beside most_entries es fs h)
    (by_test (ltb most_entries (length fs)) (λ t. simp t) (λ t. simp (t, slots_beside 256 0 es fs h)))

pub same_headers : (s t : List ℕ) → (framing s).stop ≡ clean → (framing t).stop ≡ clean → map header_of (framing s).entries ≡ map header_of (framing t).entries
    → built s ≡ built t
unfolding built framed
same_headers s t whole too same =
    let long : length s ≡ length t =
    whole_length s whole ∙ headers_take (framing s).entries (framing t).entries same ∙ sym (whole_length t too) in
    let beside = headers_beside 0 (framing s).entries (framing t).entries (framing_follows s) (framing_follows t) same in
    rw (long, whole, too)
    (by_test (ltb most_bytes (length t)) (λ k. simp k) (λ k. simp k (index_beside (framing s).entries (framing t).entries beside)))
