-- Document 01: "So parsing what was written, where it is within the sizes above, gives the same entries, and writing what was parsed gives
-- the input's bytes exactly when no long header carried a length under 255". These are `parse_written` and `write_parsed`.
-- Assumes nothing.
use mathlib.Core.Path.{◌≡◌, refl, sym, ap, ◌∙◌, subst}
use mathlib.Core.List.{List, [], ◌∷◌, ◌++◌}
use Prim.Native.Nat.{ℕ, zero, suc, ◌+◌, ◌*◌, ◌/◌, ◌%◌, ◌≤◌, ◌<◌}
use native.Mathlib.Omega.{arith}
use native.Mathlib.Nat.{div-add-mod'}
use lib.ListN.{length, take, drop, length-append, take-append-drop}
use lib.Seq.{take-append_seam, drop-append_seam, length-take-le}
use lib.Dec.{leb, eqb}
use borrow.Author.Tests.{le-leb, leb-true, leb-false, ne_eqb, eqb-true, eqb-false}
use Rattle.refusal.specs.Sizes.{most_bytes, most_entries, most_short}
use Rattle.refusal.specs.Answer.{given, on_given}
use Rattle.laws.proofs.Tests.{by_test, pick_all}
use Rattle.refusal.specs.Every.{Every, Bytes}
use Rattle.laws.proofs.Parts.{every_parts}
use Rattle.tlv.specs.Entries.{First, none, cut, one, valued, long, first, Entry, entry, Content, contents, clean, Framing, done, onto, step, frames, framing}
use Rattle.tlv.specs.Limits.{framed}
use Rattle.tlv.proofs.Whole.{Whole, framed_whole, whole_framed}
use Rattle.tlv_writing.specs.Encode.{header, encode, size_of, encode_all, Shortest}
use Rattle.tlv_writing.proofs.Encodes.{header_short, header_long, length_encode, size_bound}

-- ---- what is given
module _ (i : ℕ) (s : List ℕ) (es : List Entry) (e : framed i s ≡ given es) where
  given_whole : Whole most_bytes most_entries s (framing s).stop (framing s).entries es
  unfolding framed
  given_whole = framed_whole most_bytes most_entries i s es e

  pub given_bytes : length s ≤ most_bytes
  given_bytes = given_whole.short

  pub given_entries : length es ≤ most_entries
  given_entries = given_whole.few

-- ---- an entry as it is written, and the bytes after it
module _ (t : ℕ) (v rest : List ℕ) where
  encode_short : length v ≤ most_short → encode t v ++ rest ≡ t ∷ length v ∷ (v ++ rest)
  unfolding encode
  encode_short h = rw (header_short t (length v) h)

  encode_long : most_short < length v → encode t v ++ rest ≡ t ∷ 255 ∷ (length v / 256) ∷ (length v % 256) ∷ (v ++ rest)
  unfolding encode
  encode_long h = rw (header_long t (length v) h)

  length_entry : length (encode t v ++ rest) ≡ size_of (length v) + length rest
  length_entry = length-append (encode t v) rest ∙ rw (length_encode t v)

pub length_all : (c : Content) (cs : List Content) → length (encode_all (c ∷ cs)) ≡ size_of (length c.value) + length (encode_all cs)
unfolding encode_all
length_all c cs = length_entry c.ty c.value (encode_all cs)

-- ---- what was written is parsed
valued_back : (t h : ℕ) (v rest : List ℕ) → valued t h (length v) (v ++ rest) ≡ one t h v rest
unfolding valued
valued_back t h v rest =
    let l = length-append v rest in
    rw (le-leb (length v) (length (v ++ rest)) (omega arith), take-append_seam, drop-append_seam)

pub first_back : (t : ℕ) (v rest : List ℕ) → first (encode t v ++ rest) ≡ one t (length (header t (length v))) v rest
unfolding first long
first_back t v rest =
    by_test (leb (length v) most_short)
    (λ e.
    let h = leb-true _ _ e in
    rw (encode_short t v rest h, header_short t (length v) h) (rw (ne_eqb (length v) 255 (omega arith)) (valued_back t 2 v rest)))
    (λ e.
    let h = leb-false _ _ e in
    rw (encode_long t v rest h, header_long t (length v) h, div-add-mod') (valued_back t 4 v rest))

-- the framing ends with its input, and its entries say cs
abbrev Says : List Content → Framing → Type 0
Says cs w = (contents w.entries ≡ cs) × (w.stop ≡ clean)

says_none : Says [] (done clean)
unfolding contents
says_none = (refl, refl)

says_more : (c : Content) (cs : List Content) (w : Framing) (p a : ℕ) → Says cs w → Says (c ∷ cs) (onto (entry p c.ty a c.value) w)
unfolding contents
says_more c cs w p a h = (rw h.0, h.1)

frames_back : (fuel at : ℕ) (cs : List Content) → length (encode_all cs) ≤ fuel → Says cs (frames fuel at (encode_all cs))
unfolding frames step first encode_all
frames_back zero at [] h = says_none
frames_back (suc k) at [] h = says_none
frames_back zero at (c ∷ cs) h = absurd (omega (arith, length_all c cs, size_bound (length c.value)))
frames_back (suc k) at (c ∷ cs) h =
    rw (first_back c.ty c.value (encode_all cs))
    (says_more c cs _ _ _ (frames_back k _ cs (omega (arith, length_all c cs, size_bound (length c.value)))))

pub length_contents : (es : List Entry) → length (contents es) ≡ length es
unfolding contents
length_contents [] = refl
length_contents (e ∷ es) = ap suc (length_contents es)

-- "parsing what was written, where it is within the sizes above, gives the same entries"
pub parse_written : (i : ℕ) (cs : List Content) → length (encode_all cs) ≤ most_bytes → length cs ≤ most_entries
    → on_given contents (framed i (encode_all cs)) ≡ given cs
unfolding framing framed
parse_written i cs h k =
    let s = encode_all cs in
    let back = frames_back (length s) 0 cs (omega arith) in
    let same = sym (length_contents (framing s).entries) ∙ ap length back.0 in
    rw (whole_framed most_bytes most_entries i s h (omega arith) back.1) (ap given back.0)

-- ---- what was parsed is written

-- an entry that stands first in s, written afresh before the rest: no longer than s; s itself where its header is the shortest; and as long
-- as s only there
abbrev Spelt : List ℕ → First → Type 0
Spelt s none = s ≡ []
Spelt s cut = Unit {0}
Spelt s (one t h v rest) =
    Bytes rest
    × (size_of (length v) + length rest ≤ length s)
    × ((h ≡ 4 → most_short < length v) → encode t v ++ rest ≡ s)
    × (size_of (length v) + length rest ≡ length s → h ≡ 4 → most_short < length v)

module _ (t : ℕ) (v rest r : List ℕ) (whole : v ++ rest ≡ r) (b : Bytes r) where
  rest_bytes : Bytes rest
  rest_bytes = let both : Bytes (v ++ rest) = rw whole b in (every_parts (λ (x : ℕ). x < 256) v rest both).1

  short_spelt : (l : ℕ) → length v ≡ l → l ≤ most_short → Spelt (t ∷ l ∷ r) (one t 2 v rest)
  short_spelt l n h =
      let same : encode t v ++ rest ≡ t ∷ l ∷ r = encode_short t v rest (omega arith) ∙ rw (n, whole) in
      let size = sym (length_entry t v rest) ∙ ap length same in
      (rest_bytes, omega arith, λ z. same, λ z k. absurd (omega arith))

  long_spelt : (x y : ℕ) → length v ≡ x * 256 + y → y < 256 → Spelt (t ∷ 255 ∷ x ∷ y ∷ r) (one t 4 v rest)
  long_spelt x y n h =
      by_test (leb (length v) most_short)
      (λ e.
      let k = leb-true _ _ e in
      let size = sym (length_entry t v rest) ∙ ap length (encode_short t v rest k) ∙ ap (λ (l : List ℕ). suc (suc (length l))) whole in
      (rest_bytes, omega arith, λ z. absurd (let l = z refl in omega arith), λ z l. absurd (omega arith)))
      (λ e.
      let k = leb-false _ _ e in
      let upper : length v / 256 ≡ x = omega arith in
      let lower : length v % 256 ≡ y = omega arith in
      let same : encode t v ++ rest ≡ t ∷ 255 ∷ x ∷ y ∷ r = encode_long t v rest k ∙ rw (upper, lower, whole) in
      let size = sym (length_entry t v rest) ∙ ap length same in
      (rest_bytes, omega arith, λ z. same, λ z l. k))

-- what holds of a cut entry, and of each that the bytes can be, holds of what `valued` finds
valued_all : (P : First → Type 0) (t h n : ℕ) (r : List ℕ) → P cut → ((v rest : List ℕ) → v ++ rest ≡ r → length v ≡ n → P (one t h v rest))
    → P (valued t h n r)
unfolding valued
valued_all P t h n r c f =
    pick_all P (leb n (length r)) (one t h (take n r) (drop n r)) cut
    (λ e. f (take n r) (drop n r) (take-append-drop n r) (length-take-le n r (leb-true _ _ e))) (λ e. c)

spelt_long : (t : ℕ) (r : List ℕ) → Bytes r → Spelt (t ∷ 255 ∷ r) (long t r)
unfolding long
spelt_long t [] b = tt
spelt_long t (x ∷ []) b = tt
spelt_long t (x ∷ y ∷ r) b =
    valued_all (Spelt (t ∷ 255 ∷ x ∷ y ∷ r)) t 4 (x * 256 + y) r tt (λ v rest w n. long_spelt t v rest r w b.1.1 x y n b.1.0)

spelt : (s : List ℕ) → Bytes s → Spelt s (first s)
unfolding first
spelt [] b = refl
spelt (t ∷ []) b = tt
spelt (t ∷ l ∷ r) b =
    pick_all (Spelt (t ∷ l ∷ r)) (eqb l 255) (long t r) (valued t 2 l r)
    (λ e. rw (eqb-true l 255 e) (spelt_long t r b.1.1))
    (λ e.
    let h = eqb-false l 255 e in
    valued_all (Spelt (t ∷ l ∷ r)) t 2 l r tt (λ v rest w n. short_spelt t v rest r w b.1.1 l n (omega arith)))

-- the same of all the entries of s
abbrev Rewrites : List ℕ → List Entry → Type 0
Rewrites s es =
    (length (encode_all (contents es)) ≤ length s)
    × (Every Shortest es → encode_all (contents es) ≡ s)
    × (length (encode_all (contents es)) ≡ length s → Every Shortest es)

step_rewrites : (s : List ℕ) (at : ℕ) (x : First) (next : ℕ → List ℕ → Framing) → Spelt s x
    → ((n : ℕ) (r : List ℕ) → length r < length s → Bytes r → (next n r).stop ≡ clean → Rewrites r (next n r).entries)
    → (step at x next).stop ≡ clean → Rewrites s (step at x next).entries
unfolding step encode_all contents
step_rewrites s at none next p f e = (omega arith, λ a. sym p, λ k. tt)
step_rewrites s at cut next p f e = absurd (let z : ◌≡◌ {A = ℕ} 0 1 = cc in omega arith)
step_rewrites s at (one t h v rest) next p f e =
    let n = at + h + length v in
    let least = size_bound (length v) in
    let go = f n rest (omega arith) p.0 e in
    let size = length_entry t v (encode_all (contents (next n rest).entries)) in (
      omega arith,
      λ a. ap (◌++◌ (encode t v)) (go.1 a.1) ∙ p.2 (λ k. a.0 (omega arith)),
      λ k. ((λ l. p.3 (omega arith) (omega arith)), go.2 (omega arith)),
    )

frames_rewrites : (fuel at : ℕ) (s : List ℕ) → length s ≤ fuel → Bytes s → (frames fuel at s).stop ≡ clean → Rewrites s (frames fuel at s).entries
unfolding frames encode_all contents
frames_rewrites zero at [] h b e = (omega arith, λ a. refl, λ k. tt)
frames_rewrites zero at (x ∷ xs) h b e = absurd (omega arith)
frames_rewrites (suc k) at s h b e =
    step_rewrites s at (first s) (λ n r. frames k n r) (spelt s b) (λ n r l. frames_rewrites k n r (omega arith)) e

given_rewrites : (i : ℕ) (s : List ℕ) (es : List Entry) → Bytes s → framed i s ≡ given es → Rewrites s es
unfolding framing
given_rewrites i s es b e =
    let w = given_whole i s es e in
    subst (Rewrites s) w.are (frames_rewrites (length s) 0 s (omega arith) b w.uncut)

-- "writing what was parsed gives the input's bytes exactly when no long header carried a length under 255"
pub write_parsed : (i : ℕ) (s : List ℕ) (es : List Entry) → Bytes s → framed i s ≡ given es
    → (encode_all (contents es) ≡ s → Every Shortest es) × (Every Shortest es → encode_all (contents es) ≡ s)
write_parsed i s es b e =
    let r = given_rewrites i s es b e in
    (λ same. r.2 (ap length same), r.1)

-- what was parsed and is written afresh is never longer than the input
pub parsed_length : (i : ℕ) (s : List ℕ) (es : List Entry) → Bytes s → framed i s ≡ given es → length (encode_all (contents es)) ≤ length s
parsed_length i s es b e = (given_rewrites i s es b e).0
