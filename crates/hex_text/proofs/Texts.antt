-- The laws of `hex_text`: its length, and a turn of the loop that writes it.
-- Assumes nothing.
use mathlib.Core.Path.{◌≡◌, refl, sym, ◌∙◌}
use mathlib.Core.List.{List, [], ◌∷◌}
use Prim.Native.Nat.{ℕ, ◌+◌, ◌*◌, ◌/◌, ◌%◌, ◌≤◌, ◌<◌}
use native.Mathlib.Omega.{arith}
use native.Mathlib.Numerals.{add-one}
use lib.ListN.{length, drop, get_or, set, drop_of_length-le}
use lib.Seq.{drop-cons}
use Rattle.refusal.specs.Output.{put}
use Rattle.laws.proofs.Puts.{put_none, put_byte}
use Rattle.hex_text.specs.HexText.{digit, hex_text}

pub length_text : (bs : List ℕ) → length (hex_text bs) ≡ 2 * length bs
unfolding hex_text
length_text [] = refl
length_text (b ∷ bs) = omega (arith, length_text bs)

module _ (bytes out : List ℕ) (i : ℕ) where
  pub text_next : (hi lo : ℕ) → hi ≡ digit (get_or bytes i 0 / 16) → lo ≡ digit (get_or bytes i 0 % 16) → i < length bytes
      → put (set (set out (2 * i) hi) (2 * i + 1) lo) (2 * (i + 1)) (hex_text (drop (i + 1) bytes)) ≡ put out (2 * i) (hex_text (drop i bytes))
  unfolding hex_text
  text_next hi lo a b h =
      let k : 2 * (i + 1) ≡ 2 * i + 1 + 1 = omega arith in
      rw (a, b, k, add-one i, drop-cons bytes i 0) (sym (put_byte _ _ _ _ ∙ put_byte _ _ _ _))

  pub text_end : length bytes ≤ i → put out (2 * i) (hex_text (drop i bytes)) ≡ out
  unfolding hex_text
  text_end h = rw (drop_of_length-le _ h) (put_none _ _)
