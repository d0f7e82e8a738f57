-- How the chosen entries are written, one entry more at a time, and what a loop that measures them answers.
-- Assumes nothing.
use mathlib.Core.Path.{◌≡◌, refl, sym, ap, ◌∙◌}
use mathlib.Core.Bool.{Bool, true, false}
use mathlib.Core.List.{List, [], ◌∷◌, ◌++◌, append_assoc}
use Prim.Native.Nat.{ℕ, ◌+◌, ◌*◌, ◌≤◌}
use native.Mathlib.Omega.{arith}
use lib.Dec.{eqb}
use lib.ListN.{length, get_or, length-append}
use borrow.Author.Tests.{eq-eqb, ne_eqb, eqb-true, eqb-false}
use Rattle.refusal.specs.Every.{Every}
use Rattle.laws.proofs.Tests.{by_test}
use Rattle.laws.proofs.Parts.{every_map}
use Rattle.tlv.specs.Entries.{Entry, Content, content, contents, framing}
use Rattle.tlv_writing.specs.Encode.{encode, size_of, encode_all}
use Rattle.tlv.proofs.Walks.{framing_lies}
use Rattle.tlv.proofs.Follows.{Follow, framing_follows, taken, framing_taken}
use Rattle.tlv_writing.proofs.Encodes.{size_bound}
use Rattle.tlv_writing.proofs.Round.{length_all}
use Rattle.change_lists.specs.Operations.{encode_op}
use Rattle.changes.specs.Loops.{spared, encode_set, encode_sets, extent_of}

-- ---- entries one after the other

pub sets_none : (b : Bool) → encode_sets b [] ≡ []
unfolding encode_sets
sets_none b = refl

pub sets_more : (b : Bool) (c : Content) (cs : List Content) → encode_sets b (c ∷ cs) ≡ encode_set b c ++ encode_sets b cs
unfolding encode_sets
sets_more b c cs = refl

pub sets_length_more : (b : Bool) (c : Content) (cs ds : List Content) → cs ≡ c ∷ ds
    → length (encode_sets b cs) ≡ length (encode_set b c) + length (encode_sets b ds)
sets_length_more b c cs ds e = ap length (ap (encode_sets b) e ∙ sets_more b c ds) ∙ length-append (encode_set b c) (encode_sets b ds)

pub sets_append : (b : Bool) (cs ds : List Content) → encode_sets b (cs ++ ds) ≡ encode_sets b cs ++ encode_sets b ds
unfolding encode_sets
sets_append b [] ds = refl
sets_append b (c ∷ cs) ds = ap (λ (l : List ℕ). encode_set b c ++ l) (sets_append b cs ds) ∙ sym (append_assoc (encode_set b c) (encode_sets b cs) (encode_sets b ds))

pub sets_plain : (cs : List Content) → encode_sets false cs ≡ encode_all cs
unfolding encode_sets encode_set encode_all
sets_plain [] = refl
sets_plain (c ∷ cs) = ap (λ (l : List ℕ). encode c.ty c.value ++ l) (sets_plain cs)

-- a set takes two bytes more than its entry
pub sets_length : (cs : List Content) → length (encode_sets true cs) ≡ 2 * length cs + length (encode_all cs)
unfolding encode_sets encode_set encode_op encode_all
sets_length [] = refl
sets_length (c ∷ cs) =
    let h = sets_length cs in
    simp length-append (omega arith)

-- one entry more
pub all_length : (c : Content) (cs ds : List Content) → cs ≡ c ∷ ds → length (encode_all cs) ≡ size_of (length c.value) + length (encode_all ds)
all_length c cs ds e = ap length (ap encode_all e) ∙ length_all c ds

pub extent_is : (b n : ℕ) (cs : List Content) → b ≡ length (encode_all cs) → n ≡ length cs → record { bytes = b; entries = n } ≡ extent_of cs
extent_is b n cs e f = rw (e, f)

-- ---- the entries whose types have no mark, one more at a time

abbrev pub spared_of : (marks : List ℕ) → List Entry → List Content
spared_of m es = spared m (contents es)

module _ (m : List ℕ) (e : Entry) (es : List Entry) where
  pub spared_keep : get_or m e.ty 0 ≡ 0 → spared_of m (e ∷ es) ≡ content e.ty e.value ∷ spared_of m es
  unfolding spared contents
  spared_keep k = simp (eq-eqb _ _ k)

  pub spared_skip : (get_or m e.ty 0 ≡ 0 → ⊥) → spared_of m (e ∷ es) ≡ spared_of m es
  unfolding spared contents
  spared_skip k = simp (ne_eqb _ _ k)

pub spared_none : (m : List ℕ) → spared_of m [] ≡ []
unfolding spared contents
spared_none m = refl

-- they take at most twice the bytes that all take, since no header has more than four bytes where the old one has two; and each is one of them
spared_within : (m : List ℕ) (at : ℕ) (es : List Entry) → Follow at es → Every (λ (e : Entry). e.place + 2 ≤ e.start) es
    → (length (encode_all (spared_of m es)) ≤ 2 * taken es) × (length (spared_of m es) ≤ taken es)
unfolding spared contents encode_all
spared_within m at [] f h = (omega arith, omega arith)
spared_within m at (e ∷ es) f h =
    let go = spared_within m (e.start + length e.value) es f.2 h.1 in
    by_test (eqb (get_or m e.ty 0) 0)
    (λ t.
    let keep = spared_keep m e es (eqb-true _ _ t) in
    omega (arith, go, h.0, size_bound (length e.value), all_length (content e.ty e.value) _ _ keep, ap length keep))
    (λ t.
    let skip = spared_skip m e es (eqb-false _ _ t) in
    omega (arith, go, h.0, ap length skip, ap (λ cs. length (encode_all cs)) skip))

pub spared_bound : (m s : List ℕ)
    → (length (encode_all (spared_of m (framing s).entries)) ≤ 2 * length s) × (length (spared_of m (framing s).entries) ≤ length s)
spared_bound m s =
    let within = spared_within m 0 (framing s).entries (framing_follows s) (every_map _ _ (λ e l. l.0) _ (framing_lies s)) in
    omega (arith, within, framing_taken s)
