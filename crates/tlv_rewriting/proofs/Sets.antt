-- The laws of putting an entry after those that are kept.
-- Assumes nothing.
use mathlib.Core.Path.{◌≡◌, sym, ap, ◌∙◌}
use mathlib.Core.List.{List, [], ◌∷◌, ◌++◌, append-nil}
use Prim.Native.Nat.{ℕ, ◌+◌, ◌≤◌, ◌<◌}
use lib.Dec.{ltb}
use lib.ListN.{length, length-append}
use borrow.Author.Tests.{lt-ltb, le-ltb}
use Rattle.refusal.specs.Sizes.{most_value}
use Rattle.refusal.specs.Answer.{pick, given, refused}
use Rattle.tlv.specs.Entries.{Content, content, contents, framing, Framing}
use Rattle.tlv.specs.Limits.{count}
use Rattle.tlv_writing.specs.Encode.{encode, size_of, encode_all, sized}
use Rattle.tlv_rewriting.specs.Rewrite.{kept, added}
use Rattle.tlv_rewriting.specs.Loops.{with_added}
use Rattle.tlv_rewriting.specs.declared.Choice.{Choice}
use Rattle.tlv.proofs.Walks.{from_start}
use Rattle.tlv.proofs.Tally.{counted_given, counted_refused}
use Rattle.tlv_writing.proofs.Encodes.{length_encode}
use Rattle.tlv_writing.proofs.Several.{encode_append}

module _ (c : Choice) (t : ℕ) (v : List ℕ) (cs : List Content) where
  pub add_bytes : encode_all (added c t v cs) ≡ encode_all (kept c cs) ++ encode t v
  unfolding encode_all
  add_bytes = encode_append (kept c cs) (content t v ∷ []) ∙ ap (λ (l : List ℕ). encode_all (kept c cs) ++ l) (append-nil (encode t v))

  pub add_length : length (encode_all (added c t v cs)) ≡ length (encode_all (kept c cs)) + size_of (length v)
  add_length =
      ap length add_bytes ∙ length-append (encode_all (kept c cs)) (encode t v)
      ∙ ap (λ (n : ℕ). length (encode_all (kept c cs)) + n) (length_encode t v)

  pub add_count : length (added c t v cs) ≡ length (kept c cs) + 1
  add_count = length-append (kept c cs) (content t v ∷ [])

module _ (c : Choice) (t : ℕ) (v s : List ℕ) where
  pub add_refused : (n p k : ℕ) → refused n p k ≡ count 0 s → refused n p k ≡ with_added c t v s
  unfolding with_added
  add_refused n p k e = counted_refused 0 _ s n p k e

  module _ (n : ℕ) (counted : given n ≡ count 0 s) where
    add_given : with_added c t v s ≡ pick (ltb most_value (length v)) (refused 13 0 0) (sized (added c t v (contents (framing s).entries)))
    unfolding with_added
    add_given =
        counted_given 0 _ s n counted
        ∙ ap (λ (w : Framing). pick (ltb most_value (length v)) (refused 13 0 0) (sized (added c t v (contents w.entries)))) (from_start s)

    pub add_too_long : most_value < length v → refused 13 0 0 ≡ with_added c t v s
    add_too_long h = sym (add_given ∙ simp (lt-ltb _ _ h))

    pub add_sized : length v ≤ most_value → with_added c t v s ≡ sized (added c t v (contents (framing s).entries))
    add_sized h = add_given ∙ simp (le-ltb _ _ h)
