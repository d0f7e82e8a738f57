-- The laws of several entries, written one after the other, and of the sizes that they have to keep.
-- Assumes nothing.
use mathlib.Core.Path.{◌≡◌, refl, sym, ap, ◌∙◌}
use mathlib.Core.List.{List, [], ◌∷◌, ◌++◌, append_assoc}
use Prim.Native.Nat.{ℕ, ◌≤◌, ◌<◌}
use lib.ListN.{length}
use borrow.Author.Tests.{lt-ltb, le-ltb}
use Rattle.refusal.specs.Sizes.{most_bytes, most_entries}
use Rattle.refusal.specs.Answer.{given, refused}
use Rattle.tlv.specs.Entries.{Content}
use Rattle.tlv_writing.specs.Encode.{encode, encode_all, sized}

pub encode_none : encode_all [] ≡ []
unfolding encode_all
encode_none = refl

pub encode_more : (c : Content) (cs : List Content) → encode_all (c ∷ cs) ≡ encode c.ty c.value ++ encode_all cs
unfolding encode_all
encode_more c cs = refl

pub encode_append : (cs ds : List Content) → encode_all (cs ++ ds) ≡ encode_all cs ++ encode_all ds
unfolding encode_all
encode_append [] ds = refl
encode_append (c ∷ cs) ds =
    ap (λ (l : List ℕ). encode c.ty c.value ++ l) (encode_append cs ds) ∙ sym (append_assoc (encode c.ty c.value) (encode_all cs) (encode_all ds))

module _ (cs : List Content) where
  pub sized_bytes : most_bytes < length (encode_all cs) → refused 10 0 0 ≡ sized cs
  unfolding sized
  sized_bytes h = simp (lt-ltb _ _ h)

  pub sized_count : length (encode_all cs) ≤ most_bytes → most_entries < length cs → refused 10 0 0 ≡ sized cs
  unfolding sized
  sized_count h k = simp (le-ltb _ _ h, lt-ltb _ _ k)

  pub sized_is : length (encode_all cs) ≤ most_bytes → length cs ≤ most_entries → sized cs ≡ given (encode_all cs)
  unfolding sized
  sized_is h k = simp (le-ltb _ _ h, le-ltb _ _ k)
