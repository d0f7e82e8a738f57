-- The bytes of an index: one type after the other, and how many they are.
-- Assumes nothing.
use mathlib.Core.Path.{◌≡◌, refl, sym, ◌∙◌}
use mathlib.Core.List.{List, [], ◌∷◌, ◌++◌}
use Prim.Native.Nat.{ℕ, zero, suc, ◌+◌, ◌*◌, ◌≤◌, ◌<◌}
use native.Mathlib.Omega.{arith}
use native.Mathlib.Numerals.{add-one}
use lib.ListN.{length, get_or, set, length-append}
use Rattle.refusal.specs.Output.{put}
use Rattle.laws.proofs.Puts.{put_byte}
use Rattle.wire_bytes.specs.Bytes.{bytes_of}
use Rattle.wire.proofs.Round.{length_bytes}
use borrow.Author.Tests.{lt-ltb}
use Rattle.refusal.specs.Sizes.{most_bytes}
use Rattle.refusal.specs.Answer.{given, refused}
use Rattle.tlv.specs.Entries.{Entry, framing}
use Rattle.tlv.specs.Limits.{count, framed}
use Rattle.tlv.proofs.Tally.{answers_given, answers_refused}
use Rattle.dataset_index.specs.Index.{how_many, last_place, slots, index_bytes, index_size, built}
use Rattle.dataset_index.specs.Loops.{Indexed, slots_in}
use Rattle.dataset_index.specs.declared.Table.{Table}

module _ (c p : List ℕ) where
  pub slots_next : (t n k : ℕ) → n ≡ suc k → slots_in c p t n ≡ bytes_of 2 (get_or c t 0) ++ (bytes_of 2 (get_or p t 0) ++ slots_in c p (t + 1) k)
  unfolding slots_in
  slots_next t n k h = rw (h, add-one t)

  pub slots_end : (t n : ℕ) → n ≡ 0 → slots_in c p t n ≡ []
  unfolding slots_in
  slots_end t n h = rw h

slots_length : (n t : ℕ) (es : List Entry) → length (slots t n es) ≡ 4 * n
unfolding slots
slots_length zero t es = refl
slots_length (suc n) t es =
    length-append (bytes_of 2 (how_many t es)) (bytes_of 2 (last_place t es) ++ slots (suc t) n es)
    ∙ omega (arith, length-append (bytes_of 2 (last_place t es)) (slots (suc t) n es), length_bytes 2 (how_many t es), length_bytes 2 (last_place t es), slots_length n (suc t) es)

pub index_length : (es : List Entry) → length (index_bytes es) ≡ index_size
unfolding index_bytes
index_length es = omega (arith, slots_length 256 0 es)

-- the table's bytes are the definition's
slots_are : (x : Table) (s : List ℕ) → Indexed x s → (n t : ℕ) → t + n ≤ 256 → slots_in x.count x.place t n ≡ slots t n (framing s).entries
unfolding slots slots_in
slots_are x s i zero t h = refl
slots_are x s i (suc n) t h = rw (i.many t (omega arith), i.begins t (omega arith), slots_are x s i n (suc t) (omega arith))

marked : (out : List ℕ) (rest : List ℕ) (x y : ℕ) → put out 0 (x ∷ y ∷ rest) ≡ put (set (set out 0 x) 1 y) 2 rest
marked out rest x y = put_byte out 0 x (y ∷ rest) ∙ put_byte (set out 0 x) 1 y rest

-- the mark, and then the table, make the index
pub index_put : (x : Table) (s : List ℕ) → Indexed x s → (out left : List ℕ)
    → left ≡ put (set (set out 0 0x49) 1 0x58) 2 (slots_in x.count x.place 0 256) → left ≡ put out 0 (index_bytes (framing s).entries)
unfolding index_bytes
index_put x s i out left w =
    w ∙ rw (slots_are x s i 256 0 (omega arith)) (sym (marked out (slots 0 256 (framing s).entries) 0x49 0x58))

-- ---- what `build` answers, by the size of the dataset and by what the walk said of its entries
pub built_large : (s : List ℕ) → most_bytes < length s → refused 1 0 0 ≡ built s
unfolding built framed
built_large s h = simp (lt-ltb _ _ h)

pub built_given : (s : List ℕ) (n : ℕ) → given n ≡ count 0 s → built s ≡ given (index_bytes (framing s).entries)
unfolding built
built_given s n e = answers_given 0 index_bytes s n e

pub built_refused : (s : List ℕ) (n p k : ℕ) → refused n p k ≡ count 0 s → refused n p k ≡ built s
unfolding built
built_refused s n p k e = answers_refused 0 index_bytes s n p k e
