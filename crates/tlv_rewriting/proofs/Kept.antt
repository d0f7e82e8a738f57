-- The laws of the entries that a choice keeps: one entry more at a time, and how long they are.
-- Assumes nothing.
use mathlib.Core.Path.{◌≡◌, refl, ap, ◌∙◌, subst}
use mathlib.Core.Bool.{true, false}
use mathlib.Core.List.{List, [], ◌∷◌, ◌++◌}
use Prim.Native.Nat.{ℕ, suc, ◌+◌, ◌*◌, ◌≤◌}
use native.Mathlib.Omega.{arith}
use lib.ListN.{length, length-append}
use Rattle.refusal.specs.Answer.{Answer, given, absent, refused, on_given}
use Rattle.refusal.specs.Every.{Bytes, Every}
use Rattle.laws.proofs.Tests.{by_test}
use Rattle.tlv.specs.Entries.{Entry, Content, content, contents, framing}
use Rattle.tlv.specs.Limits.{framed}
use Rattle.tlv_writing.specs.Encode.{encode, size_of, encode_all}
use Rattle.tlv_rewriting.specs.Rewrite.{keeps_of, kept, rewritten}
use Rattle.tlv_rewriting.specs.Loops.{extent_of}
use Rattle.tlv_rewriting.specs.declared.Choice.{Choice}
use Rattle.tlv_writing.proofs.Several.{encode_more}
use Rattle.tlv_writing.proofs.Round.{length_all, parsed_length}
use Rattle.tlv.proofs.Walks.{framing_lies}
use Rattle.tlv.proofs.Follows.{Follow, framing_follows, taken, framing_taken}
use Rattle.tlv_writing.proofs.Encodes.{size_bound, length_encode}
use Rattle.laws.proofs.Parts.{every_map}

abbrev pub kept_of : Choice → List Entry → List Content
kept_of c es = kept c (contents es)

-- a turn of a loop over the entries, by whether its entry is kept
module _ (c : Choice) (e : Entry) (es : List Entry) where
  turn_keep : keeps_of c e.ty ≡ true → kept_of c (e ∷ es) ≡ content e.ty e.value ∷ kept_of c es
  unfolding kept contents
  turn_keep k = simp k

  pub turn_skip : keeps_of c e.ty ≡ false → kept_of c (e ∷ es) ≡ kept_of c es
  unfolding kept contents
  turn_skip k = simp k

  pub bytes_keep : keeps_of c e.ty ≡ true → encode_all (kept_of c (e ∷ es)) ≡ encode e.ty e.value ++ encode_all (kept_of c es)
  bytes_keep k = ap encode_all (turn_keep k) ∙ encode_more (content e.ty e.value) _

  pub length_keep : keeps_of c e.ty ≡ true → length (encode_all (kept_of c (e ∷ es))) ≡ size_of (length e.value) + length (encode_all (kept_of c es))
  length_keep k =
      ap length (bytes_keep k) ∙ length-append (encode e.ty e.value) _
      ∙ ap (λ (x : ℕ). x + length (encode_all (kept_of c es))) (length_encode e.ty e.value)

  pub count_keep : keeps_of c e.ty ≡ true → length (kept_of c (e ∷ es)) ≡ suc (length (kept_of c es))
  count_keep k = ap length (turn_keep k)

pub kept_none : (c : Choice) → kept_of c [] ≡ []
unfolding kept contents
kept_none c = refl

-- what is kept takes at most twice the bytes that all take, since no header has more than four bytes where the old one has two; and each is one of them
kept_within : (c : Choice) (at : ℕ) (es : List Entry) → Follow at es → Every (λ (e : Entry). e.place + 2 ≤ e.start) es
    → (length (encode_all (kept_of c es)) ≤ 2 * taken es) × (length (kept_of c es) ≤ taken es)
unfolding kept contents encode_all
kept_within c at [] f h = (omega arith, omega arith)
kept_within c at (e ∷ es) f h =
    let go = kept_within c (e.start + length e.value) es f.2 h.1 in
    by_test (keeps_of c e.ty)
    (λ t. omega (arith, go, h.0, size_bound (length e.value), length_keep c e es t, count_keep c e es t))
    (λ t. omega (arith, go, h.0, ap length (turn_skip c e es t), ap (λ cs. length (encode_all cs)) (turn_skip c e es t)))

pub kept_bound : (c : Choice) (s : List ℕ)
    → (length (encode_all (kept_of c (framing s).entries)) ≤ 2 * length s) × (length (kept_of c (framing s).entries) ≤ length s)
kept_bound c s =
    let within = kept_within c 0 (framing s).entries (framing_follows s) (every_map _ _ (λ e l. l.0) _ (framing_lies s)) in
    omega (arith, within, framing_taken s)

pub extent_is : (b n : ℕ) (cs : List Content) → b ≡ length (encode_all cs) → n ≡ length cs → record { bytes = b; entries = n } ≡ extent_of cs
extent_is b n cs e f = rw (e, f)

-- ---- what is kept of the entries, written afresh, is never longer than the input, so that 10, "result over the sizes above", cannot occur
kept_length : (c : Choice) (es : List Content) → length (encode_all (kept c es)) ≤ length (encode_all es)
unfolding kept
kept_length c [] = omega arith
kept_length c (e ∷ es) =
    let go = kept_length c es in
    let all = length_all e es in
    by_test (keeps_of c e.ty) (λ t. rw t (omega (arith, length_all e (kept c es)))) (λ t. rw t (omega arith))

abbrev NotLonger : List ℕ → Answer (List ℕ) → Type 0
NotLonger s (given bs) = length bs ≤ length s
NotLonger s absent = Unit {0}
NotLonger s (refused n p i) = Unit {0}

pub rewritten_length : (c : Choice) (s bs : List ℕ) → Bytes s → rewritten c s ≡ given bs → length bs ≤ length s
unfolding rewritten
rewritten_length c s bs b e = subst (NotLonger s) e (not_longer (framed 0 s) refl)
  where
    not_longer : (a : Answer (List Entry)) → framed 0 s ≡ a → NotLonger s (on_given (λ (es : List Entry). encode_all (kept c (contents es))) a)
    not_longer (given es) h = omega (arith, kept_length c (contents es), parsed_length 0 s es b h)
    not_longer absent h = tt
    not_longer (refused n p i) h = tt
