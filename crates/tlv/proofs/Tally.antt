-- The count from a state of the loop on: n entries are passed, over is the place of the first past the most where that one is passed, and st and es
-- are how the walk goes on. And what a caller of `count_entries` learns.
-- Assumes nothing.
use mathlib.Core.Path.{◌≡◌, refl, sym, ap, ◌∙◌, subst}
use mathlib.Core.Bool.{Bool, true, false}
use mathlib.Core.List.{List, [], ◌∷◌}
use Prim.Native.Nat.{ℕ, suc, ◌+◌, ◌-◌, ◌≤◌}
use native.Mathlib.Omega.{arith}
use native.Mathlib.Nat.{zero-add, add-zero}
use lib.Dec.{ltb}
use lib.ListN.{length, get_or}
use borrow.Author.Tests.{lt-ltb, le-ltb, ltb-true, ltb-false}
use Rattle.refusal.specs.Sizes.{most_bytes, most_entries}
use Rattle.laws.proofs.Tests.{by_test, pick_all}
use Rattle.tlv.proofs.Walks.{from, from_start}
use Rattle.refusal.specs.Answer.{pick, Answer, given, absent, refused, on_given, then_do}
use Rattle.tlv.specs.Entries.{Entry, entry, Stop, clean, cut_at, Framing, done, onto, framing}
use Rattle.tlv.specs.Limits.{place_of_next, limited, framed, count}

module _ (i : ℕ) where
  tally_by : ℕ → ℕ → Stop → List Entry → Answer ℕ
  tally_by n over (cut_at p) es = refused 2 p i
  tally_by n over clean es =
      pick (ltb most_entries (n + length es)) (refused 3 (pick (ltb most_entries n) over (get_or es (most_entries - n) (entry 0 0 0 [])).place) i) (given (n + length es))

  pub tally : ℕ → ℕ → Framing → Answer ℕ
  tally n over w = tally_by n over w.stop w.entries

  pick_length : (b : Bool) (p : ℕ) (es : List Entry) → pick b (refused 3 p i) (given (length es)) ≡ on_given length (pick b (refused 3 p i) (given es))
  pick_length true p es = refl
  pick_length false p es = refl

  start_by : (st : Stop) (es : List Entry) → tally_by 0 0 st es ≡ on_given length (limited most_entries i st es)
  unfolding tally_by limited
  start_by (cut_at p) es = refl
  start_by clean es = simp zero-add (pick_length (ltb most_entries (length es)) (place_of_next most_entries es) es)

  pub tally_start : (s : List ℕ) → tally 0 0 (from s 0) ≡ on_given length (limited most_entries i (framing s).stop (framing s).entries)
  unfolding tally
  tally_start s = ap (tally 0 0) (from_start s) ∙ start_by (framing s).stop (framing s).entries

  module _ (n over : ℕ) where
    -- one entry more
    module _ (e : Entry) where
      at_by : n ≡ most_entries → (st : Stop) (es : List Entry) → tally_by n over st (e ∷ es) ≡ tally_by (n + 1) e.place st es
      unfolding tally_by
      at_by h (cut_at p) es = refl
      at_by h clean es =
          let k : n + suc (length es) ≡ n + 1 + length es = omega arith in
          let z : most_entries - n ≡ 0 = omega arith in
          simp (k, z, le-ltb most_entries n (omega arith), lt-ltb most_entries (n + 1) (omega arith))

      off_by : (n ≡ most_entries → ⊥) → (st : Stop) (es : List Entry) → tally_by n over st (e ∷ es) ≡ tally_by (n + 1) over st es
      unfolding tally_by
      off_by h (cut_at p) es = refl
      off_by h clean es =
          let k : n + suc (length es) ≡ n + 1 + length es = omega arith in
          by_test (ltb n most_entries)
          (λ l.
          let z : most_entries - n ≡ suc (most_entries - (n + 1)) = omega (arith, ltb-true) in
          simp (k, z, le-ltb most_entries n (omega (arith, ltb-true)), le-ltb most_entries (n + 1) (omega (arith, ltb-true))))
          (λ l. simp (k, lt-ltb most_entries n (omega (arith, ltb-false)), lt-ltb most_entries (n + 1) (omega (arith, ltb-false))))

      pub tally_at : n ≡ most_entries → (w : Framing) → tally n over (onto e w) ≡ tally (n + 1) e.place w
      unfolding tally
      tally_at h w = at_by h w.stop w.entries

      pub tally_off : (n ≡ most_entries → ⊥) → (w : Framing) → tally n over (onto e w) ≡ tally (n + 1) over w
      unfolding tally
      tally_off h w = off_by h w.stop w.entries

    -- no entry more
    pub tally_end : tally n over (done clean) ≡ pick (ltb most_entries n) (refused 3 over i) (given n)
    unfolding tally tally_by
    tally_end = simp add-zero (by_test (ltb most_entries n) (λ e. simp e) (λ e. simp e))

    -- a cut entry
    pub tally_cut : (p : ℕ) → tally n over (done (cut_at p)) ≡ refused 2 p i
    unfolding tally tally_by
    tally_cut p = refl

  -- ---- what a caller of `count_entries` learns: the refusal is its own answer, or it goes on with all the entries

  -- if anything is given, it is es
  abbrev pub Only : List Entry → Answer (List Entry) → Type 0
  Only es (given xs) = xs ≡ es
  Only es absent = ⊥
  Only es (refused n p k) = Unit {0}

  only_by : (st : Stop) (es : List Entry) → Only es (limited most_entries i st es)
  unfolding limited
  only_by (cut_at p) es = tt
  only_by clean es = pick_all (Only es) (ltb most_entries (length es)) _ (given es) (λ e. tt) (λ e. refl)

  pub only : (s : List ℕ) → Only (framing s).entries (framed i s)
  unfolding framed
  only s = pick_all (Only (framing s).entries) (ltb most_bytes (length s)) (refused 1 0 i) _ (λ e. tt) (λ e. only_by (framing s).stop (framing s).entries)

  module _ {B : Type 0} (f : List Entry → Answer B) where
    given_by : (es : List Entry) (a : Answer (List Entry)) (n : ℕ) → Only es a → given n ≡ on_given length a → then_do a f ≡ f es
    given_by es (given xs) n o e = ap f o
    given_by es absent n o e = absurd o
    given_by es (refused x y z) n o e = absurd (let z : ◌≡◌ {A = ℕ} 0 1 = cc in omega arith)

    refused_by : (a : Answer (List Entry)) (n p k : ℕ) → refused n p k ≡ on_given length a → refused n p k ≡ then_do a f
    refused_by (given xs) n p k e = absurd (let z : ◌≡◌ {A = ℕ} 0 1 = cc in omega arith)
    refused_by absent n p k e = absurd (let z : ◌≡◌ {A = ℕ} 0 1 = cc in omega arith)
    refused_by (refused x y z) n p k e = cc

    pub counted_framed : (s : List ℕ) (n : ℕ) → given n ≡ count i s → then_do (framed i s) f ≡ f (framing s).entries
    unfolding count
    counted_framed s n e = given_by (framing s).entries (framed i s) n (only s) e

    pub counted_given : (s : List ℕ) (n : ℕ) → given n ≡ count i s → then_do (framed i s) f ≡ f (from s 0).entries
    counted_given s n e = counted_framed s n e ∙ ap (λ (w : Framing). f w.entries) (sym (from_start s))

    pub counted_refused : (s : List ℕ) (n p k : ℕ) → refused n p k ≡ count i s → refused n p k ≡ then_do (framed i s) f
    unfolding count
    counted_refused s n p k e = refused_by (framed i s) n p k e

  -- the same for a call that answers f of the entries
  module _ {B : Type 0} (f : List Entry → B) where
    on_given_lem : (a : Answer (List Entry)) → on_given f a ≡ then_do a (λ (es : List Entry). given (f es))
    on_given_lem (given es) = refl
    on_given_lem absent = refl
    on_given_lem (refused n p k) = refl

    pub answers_given : (s : List ℕ) (n : ℕ) → given n ≡ count i s → on_given f (framed i s) ≡ given (f (framing s).entries)
    answers_given s n e =
        on_given_lem (framed i s) ∙ counted_framed (λ (es : List Entry). given (f es)) s n e

    pub answers_refused : (s : List ℕ) (n p k : ℕ) → refused n p k ≡ count i s → refused n p k ≡ on_given f (framed i s)
    answers_refused s n p k e = counted_refused (λ (es : List Entry). given (f es)) s n p k e ∙ sym (on_given_lem (framed i s))

  pub counted_number : (s : List ℕ) (n : ℕ) → given n ≡ count i s → n ≡ length (framing s).entries
  unfolding count
  counted_number s n e = let same : given n ≡ given (length (framing s).entries) = e ∙ answers_given length s n e in cc

  -- what holds of the walk's entries holds of those that are given
  abbrev pub Holds : (List Entry → Type 0) → Answer (List Entry) → Type 0
  Holds P (given xs) = P xs
  Holds P absent = Unit {0}
  Holds P (refused n p k) = Unit {0}

  holds_by : (P : List Entry → Type 0) (es : List Entry) (a : Answer (List Entry)) → Only es a → P es → Holds P a
  holds_by P es (given xs) o h = subst P (sym o) h
  holds_by P es absent o h = tt
  holds_by P es (refused n p k) o h = tt

  pub framed_holds : (P : List Entry → Type 0) (s : List ℕ) → P (framing s).entries → Holds P (framed i s)
  framed_holds P s h = holds_by P (framing s).entries (framed i s) (only s) h

  pub counted_short : (s : List ℕ) (n : ℕ) → given n ≡ count i s → length s ≤ most_bytes
  unfolding count framed
  counted_short s n e =
      by_test (ltb most_bytes (length s))
      (λ t. absurd (let z : given n ≡ refused 1 0 i = e ∙ simp t in let z : ◌≡◌ {A = ℕ} 0 1 = cc in omega arith))
      (λ t. ltb-false _ _ t)
