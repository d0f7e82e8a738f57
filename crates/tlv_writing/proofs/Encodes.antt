-- The laws of `encode`: the header's two forms, its length, the stores that write it, and when an entry is written.
-- Assumes nothing.
use mathlib.Core.Path.{◌≡◌, sym, ap, ◌∙◌}
use mathlib.Core.Bool.{Bool}
use mathlib.Core.List.{List, [], ◌∷◌}
use Prim.Native.Nat.{ℕ, ◌+◌, ◌≤◌, ◌<◌, ◌/◌, ◌%◌}
use native.Mathlib.Omega.{arith}
use native.Mathlib.Numerals.{towards_suc}
use lib.Dec.{leb}
use lib.ListN.{length, set, length-append}
use borrow.Author.Tests.{le-leb, lt-leb, leb-true, leb-false, lt-ltb, le-ltb}
use Rattle.refusal.specs.Sizes.{most_short, most_value}
use Rattle.refusal.specs.Answer.{pick, given, refused}
use Rattle.refusal.specs.Output.{put, placing, placed}
use Rattle.laws.proofs.Tests.{by_test}
use Rattle.laws.proofs.Puts.{put_then, put_length}
use Rattle.laws.proofs.Emits.{placed_fits, placed_not}
use Rattle.tlv_writing.specs.Encode.{header, headed, encode, size_of, entry_size, encoded, placed_if}

module _ (t n : ℕ) where
  pub header_short : n ≤ most_short → header t n ≡ t ∷ n ∷ []
  unfolding header
  header_short h = ap (λ (b : Bool). pick b (t ∷ n ∷ []) (t ∷ 255 ∷ (n / 256) ∷ (n % 256) ∷ [])) (le-leb n most_short h)

  pub header_long : most_short < n → header t n ≡ t ∷ 255 ∷ (n / 256) ∷ (n % 256) ∷ []
  unfolding header
  header_long h = simp (lt-leb _ _ h)

  pub size_header : length (header t n) + n ≡ size_of n
  unfolding size_of
  size_header =
      by_test (leb n most_short)
      (λ e. rw (header_short (leb-true _ _ e), e) (omega arith))
      (λ e. rw (header_long (leb-false _ _ e), e) (omega arith))

  pub header_two : 2 ≤ length (header t n)
  header_two =
      by_test (leb n most_short) (λ e. rw (header_short (leb-true _ _ e)) (omega arith)) (λ e. rw (header_long (leb-false _ _ e)) (omega arith))

  pub header_four : most_short < n → length (header t n) ≡ 4
  header_four h = ap length (header_long h)

  pub headed_too_long : most_value < n → refused 13 0 0 ≡ headed t n
  unfolding headed
  headed_too_long h = simp (lt-ltb _ _ h)

  pub headed_is : n ≤ most_value → headed t n ≡ given (header t n)
  unfolding headed
  headed_is h = simp (le-ltb _ _ h)

  -- the header alone, placed
  module _ (at : ℕ) (out : List ℕ) where
    pub header_too_long : most_value < n → placing at out ≡ placed_if (headed t n) at out
    unfolding placed_if
    header_too_long h = rw (← headed_too_long h)

    header_placed : n ≤ most_value → placed_if (headed t n) at out ≡ placed (header t n) at out
    unfolding placed_if
    header_placed h = rw (headed_is h)

    pub header_no_room : n ≤ most_value → length out < at + length (header t n) → placing at out ≡ placed_if (headed t n) at out
    header_no_room h k = sym (header_placed h ∙ placed_not (header t n) at out k)

    pub header_room : n ≤ most_value → at + length (header t n) ≤ length out → placing (at + length (header t n)) (put out at (header t n)) ≡ placed_if (headed t n) at out
    header_room h k = sym (header_placed h ∙ placed_fits (header t n) at out k)

  pub put_short : (out : List ℕ) (at : ℕ) → n ≤ most_short → set (set out at t) (at + 1) n ≡ put out at (header t n)
  unfolding put
  put_short out at h = rw (header_short h) (simp towards_suc)

  pub put_long : (out : List ℕ) (at : ℕ) → most_short < n
      → set (set (set (set out at t) (at + 1) 255) (at + 2) (n / 256)) (at + 3) (n % 256) ≡ put out at (header t n)
  unfolding put
  put_long out at h = rw (header_long h) (simp towards_suc)

pub size_bound : (n : ℕ) → (n + 2 ≤ size_of n) × (size_of n ≤ n + 4)
unfolding size_of
size_bound n = by_test (leb n most_short) (λ e. rw e (omega arith)) (λ e. rw e (omega arith))

pub entry_size_lem : (n : ℕ) → n ≤ most_value → entry_size n ≡ size_of n
unfolding entry_size
entry_size_lem n h = simp (le-leb _ _ h)

-- the header's share of an entry that was measured
pub header_measured : (ty n r : ℕ) → n ≤ most_value → r ≡ entry_size n → r ≡ length (header ty n) + n
header_measured ty n r small says = omega (arith, says ∙ entry_size_lem n small, size_header ty n)

module _ (t : ℕ) (v : List ℕ) where
  pub length_encode : length (encode t v) ≡ size_of (length v)
  unfolding encode
  length_encode = length-append (header t (length v)) v ∙ size_header t (length v)

  -- the header, and then the value after it
  pub put_encode : (out left : List ℕ) (at start : ℕ) → left ≡ put out at (header t (length v)) → start ≡ at + length (header t (length v))
      → put left start v ≡ put out at (encode t v)
  unfolding encode
  put_encode out left at start l k = put_then out left at start (header t (length v)) v l k

  pub encoded_too_long : most_value < length v → refused 13 0 0 ≡ encoded t v
  unfolding encoded
  encoded_too_long h = simp (lt-ltb _ _ h)

  pub encoded_fits : length v ≤ most_value → encoded t v ≡ given (encode t v)
  unfolding encoded
  encoded_fits h = simp (le-ltb _ _ h)

  module _ (at : ℕ) (out : List ℕ) where
    pub too_long_placed : most_value < length v → placing at out ≡ placed_if (encoded t v) at out
    unfolding placed_if
    too_long_placed h = rw (← encoded_too_long h)

    pub entry_placed : length v ≤ most_value → placed_if (encoded t v) at out ≡ placed (encode t v) at out
    unfolding placed_if
    entry_placed h = rw (encoded_fits h)

    pub no_room_placed : length v ≤ most_value → length out < at + size_of (length v) → placing at out ≡ placed_if (encoded t v) at out
    no_room_placed h k = sym (entry_placed h ∙ placed_not (encode t v) at out (rw length_encode k))

    pub room_placed : length v ≤ most_value → at + size_of (length v) ≤ length out
        → placing (at + length (encode t v)) (put out at (encode t v)) ≡ placed_if (encoded t v) at out
    room_placed h k = sym (entry_placed h ∙ placed_fits (encode t v) at out (rw length_encode k))

  -- a header was stored, and then the value is placed after it
  pub value_placed : (out left : List ℕ) (at start : ℕ) → left ≡ put out at (header t (length v)) → start ≡ at + length (header t (length v))
      → length v ≤ most_value → at + size_of (length v) ≤ length out → placed v start left ≡ placed_if (encoded t v) at out
  value_placed out left at start l k h fits =
      let size = size_header t (length v) in
      let same = ap length l ∙ put_length out at (header t (length v)) in
      let whole = length_encode in
      let next : start + length v ≡ at + length (encode t v) = omega arith in
      placed_fits v start left (omega arith) ∙ rw (put_encode out left at start l k, next) (room_placed at out h fits)
