-- The entries of a payload by what they say: the last of each type, and all of one.
-- Assumes nothing.
use mathlib.Core.Path.{◌≡◌, refl, ap, ◌∙◌}
use mathlib.Core.Bool.{Bool, true, false}
use mathlib.Core.List.{List, [], ◌∷◌, ◌++◌, map, append_assoc}
use Prim.Native.Nat.{ℕ, ◌≤◌}
use native.Mathlib.Omega.{arith}
use lib.ListN.{length}
use lib.Dec.{eqb}
use Rattle.refusal.specs.Every.{Every}
use Rattle.refusal.specs.Answer.{pick, Answer, given, absent, refused, on_given}
use Rattle.laws.proofs.Tests.{by_test}
use Rattle.tlv.specs.Entries.{Entry, Content, contents}
use Rattle.tlv_writing.specs.Encode.{encode_all}
use Rattle.tlv_writing.proofs.Encodes.{size_bound}
use Rattle.tlv_writing.proofs.Round.{length_all}
use Rattle.tlv_last.specs.Last.{last_of}
use Rattle.diag_entries.specs.Parts.{all_of}
use Rattle.diag_entries.specs.Checked.{entry_value, decoding}
use Rattle.record_writing.specs.Values.{Field, entry_for, present}
use Rattle.record_writing.specs.Reading.{or_absent}

-- the last value of a type, or best where none has it
unfoldable pub last_in : ℕ → Answer (List ℕ) → List Content → Answer (List ℕ)
last_in ty best [] = best
last_in ty best (c ∷ cs) = last_in ty (pick (eqb c.ty ty) (given c.value) best) cs

-- all values of a type
unfoldable pub all_in : ℕ → List Content → List (List ℕ)
all_in ty [] = []
all_in ty (c ∷ cs) = pick (eqb c.ty ty) (c.value ∷ all_in ty cs) (all_in ty cs)

abbrev value : Entry → List ℕ
value e = e.value

pick_value : (b : Bool) (e : Entry) (best : Answer Entry) → on_given value (pick b (given e) best) ≡ pick b (given e.value) (on_given value best)
pick_value true e best = refl
pick_value false e best = refl

pub last_contents : (ty : ℕ) (best : Answer Entry) (es : List Entry) → on_given value (last_of ty best es) ≡ last_in ty (on_given value best) (contents es)
unfolding last_of last_in contents
last_contents ty best [] = refl
last_contents ty best (e ∷ es) =
    last_contents ty (pick (eqb e.ty ty) (given e) best) es ∙ ap (λ (b : Answer (List ℕ)). last_in ty b (contents es)) (pick_value (eqb e.ty ty) e best)

pub all_contents : (ty : ℕ) (es : List Entry) → map value (all_of ty es) ≡ all_in ty (contents es)
unfolding all_of all_in contents
all_contents ty [] = refl
all_contents ty (e ∷ es) =
    by_test (eqb e.ty ty)
    (λ t. rw t (ap (λ (l : List (List ℕ)). e.value ∷ l) (all_contents ty es)))
    (λ t. rw t (all_contents ty es))

-- ---- of fields that are written

-- no field has the type; at most one has
unfoldable pub free : ℕ → List Field → Bool
free ty [] = true
free ty (f ∷ fs) = pick (eqb f.ty ty) false (free ty fs)

unfoldable pub once : ℕ → List Field → Bool
once ty [] = true
once ty (f ∷ fs) = pick (eqb f.ty ty) (free ty fs) (once ty fs)

-- the field of a type
unfoldable pub lookup : ℕ → List Field → Answer (List ℕ)
lookup ty [] = absent
lookup ty (f ∷ fs) = pick (eqb f.ty ty) (or_absent f.value) (lookup ty fs)

none_both : (b c : Bool) → pick b false c ≡ true → (b ≡ false) × (c ≡ true)
none_both true c h = absurd (let z : ◌≡◌ {A = ℕ} 0 1 = cc in omega arith)
none_both false c h = (refl, h)

module _ (ty : ℕ) (rest : List Content) where
  skip : (t : ℕ) (a : Answer (List ℕ)) (best : Answer (List ℕ)) (cs : List Content) → eqb t ty ≡ false → last_in ty best (entry_for t a ++ cs) ≡ last_in ty best cs
  unfolding last_in entry_for
  skip t (given x) best cs h = rw h
  skip t absent best cs h = refl
  skip t (refused n p i) best cs h = refl

  last_free : (fs : List Field) (best : Answer (List ℕ)) → free ty fs ≡ true → last_in ty best (present fs ++ rest) ≡ last_in ty best rest
  unfolding free present
  last_free [] best h = refl
  last_free (f ∷ fs) best h =
      let b = none_both (eqb f.ty ty) (free ty fs) h in
      rw append_assoc (skip f.ty f.value best (present fs ++ rest) b.0 ∙ last_free fs best b.1)

  hit : (f : Field) (fs : List Field) → eqb f.ty ty ≡ true → free ty fs ≡ true → ((best : Answer (List ℕ)) → last_in ty best rest ≡ best)
      → last_in ty absent ((entry_for f.ty f.value ++ present fs) ++ rest) ≡ or_absent f.value
  unfolding entry_for last_in
  hit f fs t h r = by_value f.ty f.value t
    where
      by_value : (u : ℕ) (a : Answer (List ℕ)) → eqb u ty ≡ true → last_in ty absent ((entry_for u a ++ present fs) ++ rest) ≡ or_absent a
      by_value u (given x) t = ap (λ (b : Bool). last_in ty (pick b (given x) absent) (present fs ++ rest)) t ∙ last_free fs (given x) h ∙ r (given x)
      by_value u absent t = last_free fs absent h ∙ r absent
      by_value u (refused n p i) t = last_free fs absent h ∙ r absent

  pub last_field : (fs : List Field) → once ty fs ≡ true → ((best : Answer (List ℕ)) → last_in ty best rest ≡ best) → last_in ty absent (present fs ++ rest) ≡ lookup ty fs
  unfolding once lookup present
  last_field [] h r = r absent
  last_field (f ∷ fs) h r =
      by_test (eqb f.ty ty)
      (λ t. rw t (hit f fs t (rw t at h) r))
      (λ t. rw (t, append_assoc) (skip f.ty f.value absent (present fs ++ rest) t ∙ last_field fs (rw t at h) r))

  all_skip : (t : ℕ) (a : Answer (List ℕ)) (cs : List Content) → eqb t ty ≡ false → all_in ty (entry_for t a ++ cs) ≡ all_in ty cs
  unfolding all_in entry_for
  all_skip t (given x) cs h = rw h
  all_skip t absent cs h = refl
  all_skip t (refused n p i) cs h = refl

  pub all_free : (fs : List Field) → free ty fs ≡ true → all_in ty (present fs ++ rest) ≡ all_in ty rest
  unfolding free present
  all_free [] h = refl
  all_free (f ∷ fs) h =
      let b = none_both (eqb f.ty ty) (free ty fs) h in
      rw append_assoc (all_skip f.ty f.value (present fs ++ rest) b.0 ∙ all_free fs b.1)

-- ---- entries that all decode

-- a value that is within the size is read
abbrev pub Reads : ℕ → List ℕ → Type 0
Reads t v = (place : ℕ) → entry_value t place v ≡ given v

abbrev pub Readable : Content → Type 0
Readable c = Reads c.ty c.value

pub decoding_all : (es : List Entry) → Every Readable (contents es) → decoding es ≡ given es
unfolding decoding contents
decoding_all [] h = refl
decoding_all (e ∷ es) h = rw (h.0 e.place, decoding_all es h.1)

-- each value is no longer than all entries together
pub values_within : (cs : List Content) (n : ℕ) → length (encode_all cs) ≤ n → Every (λ (c : Content). length c.value ≤ n) cs
values_within [] n h = tt
values_within (c ∷ cs) n h =
    let size = length_all c cs in
    let least = size_bound (length c.value) in
    (omega arith, values_within cs n (omega arith))
