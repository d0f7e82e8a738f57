-- What a query learns of `tlv_last::last_entry`, by its answer: the entry that was found, whose value is a part of the input, that there is none,
-- or the refusal. And what each typed query learns of the function that they share.
-- Assumes nothing.
use denote.Ref.{Bor}
use mathlib.Core.Path.{◌≡◌, ap, ◌∙◌, subst}
use mathlib.Core.List.{List}
use Prim.Native.Nat.{ℕ, ◌+◌, ◌≤◌}
use native.Mathlib.Omega.{arith}
use lib.ListN.{length, take, drop}
use Rattle.std.specs.Prelude.{Result, Option}
use Rattle.refusal.specs.Answer.{Answer, given, absent, refused, then_do, on_given}
use Rattle.refusal.specs.declared.Refusal.{Refusal}
use Rattle.refusal.specs.Results.{answer_of, found_of}
use Rattle.laws.proofs.Answers.{on_absent, on_refused}
use Rattle.wire.specs.Be.{ruled}
use Rattle.tlv.specs.Entries.{Entry, entry}
use Rattle.tlv_last.specs.Last.{last_entry, spot_at, spot, last_spot, value_or, last_value}
use Rattle.tlv_last.specs.declared.Spot.{Spot}
use Rattle.tlv_last.proofs.Lasts.{spot_part}
use Rattle.dataset.specs.Queries.{rules, length_in, query}
use Rattle.dataset.specs.Reads.{Reads}

-- the entry that is given: at the place p, with the value v from a on
pub record At (x : Answer Entry) (p a : ℕ) (v : List ℕ) : Type 0 where
  pub ty : ℕ
  pub is : x ≡ given (entry p ty a v)

at_by : (p a n : ℕ) (v : List ℕ) (x : Answer Entry) → given (spot_at p a n) ≡ on_given spot x → v ≡ value_or x → At x p a v
at_by p a n v (given e) k h =
    let same : spot_at p a n ≡ spot e = cc in
    record { ty = e.ty; is = rw (h, ap (λ (z : Spot). z.place) same, ap (λ (z : Spot). z.start) same) }
at_by p a n v absent k h = absurd (let z : ◌≡◌ {A = ℕ} 0 1 = cc in omega arith)
at_by p a n v (refused x y z) k h = absurd (let z : ◌≡◌ {A = ℕ} 0 1 = cc in omega arith)

-- ---- by what `last_entry` answered
module _ (ty : ℕ) (s : List ℕ) where
  module _ (p a n : ℕ) (told : given (spot_at p a n) ≡ last_spot ty 0 s) where
    pub found_inside : a + n ≤ length s
    found_inside = (spot_part s ty p a n told).0

    pub found : At (last_entry ty 0 s) p a (take n (drop a s))
    unfolding last_spot last_value
    found = at_by p a n _ (last_entry ty 0 s) told (spot_part s ty p a n told).1

  pub none_found : absent ≡ last_spot ty 0 s → last_entry ty 0 s ≡ absent
  unfolding last_spot
  none_found told = on_absent spot (last_entry ty 0 s) told

  pub refused_found : (n p i : ℕ) → refused n p i ≡ last_spot ty 0 s → last_entry ty 0 s ≡ refused n p i
  unfolding last_spot
  refused_found n p i told = on_refused spot (last_entry ty 0 s) n p i told

-- what a reader answered of the value that was found, which it was given with a place q: that must be the entry's own
module _ {A : Type 0} (P : Bor (List ℕ) → ℕ → Result A Refusal → Type 0) (r : Result (Option A) Refusal) (ty : ℕ) (s : List ℕ) where
  pub reads_at : (p a n : ℕ) → given (spot_at p a n) ≡ last_spot ty 0 s → (v : Bor (List ℕ)) (q : ℕ) (x : Result A Refusal) → P v q x → q ≡ p
      → v.now ≡ take n (drop a s) → found_of r ≡ answer_of x → Reads P (last_entry ty 0 s) r
  reads_at p a n told v q x read same part here = rw (found ty s p a n told).is (v, x, subst (λ (k : ℕ). P v k x) same read, part, here)

-- ---- a typed query, whose value must have k bytes, by a reader that answers what f reads of them
module _ {A : Type 0} (P : Bor (List ℕ) → ℕ → Result A Refusal → Type 0) (f : List ℕ → A) (k : ℕ)
    (reads : (v : Bor (List ℕ)) (p : ℕ) (q : Result A Refusal) → P v p q → answer_of q ≡ on_given f (ruled k p v.now)) (r : Result (Option A) Refusal) where
  reads_then : (x : Answer Entry) → Reads P x r → found_of r ≡ then_do x (λ (e : Entry). on_given f (ruled k e.place e.value))
  reads_then (given e) h = h.4 ∙ reads h.0 e.place h.1 h.2 ∙ ap (λ (v : List ℕ). on_given f (ruled k e.place v)) h.3
  reads_then absent h = h
  reads_then (refused n p i) h = h

  pub query_reads : (ty : ℕ) (s : List ℕ) → length_in rules ty ≡ k → Reads P (last_entry ty 0 s) r → found_of r ≡ query ty f s
  unfolding query
  query_reads ty s is h = rw is (reads_then (last_entry ty 0 s) h)
