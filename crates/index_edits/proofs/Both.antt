-- What an edit by a stored index leaves, by what the check of the index and the edit itself answered.
-- Assumes nothing.
use mathlib.Core.Path.{◌≡◌, refl, ap, ◌∙◌}
use mathlib.Core.List.{List, ◌++◌}
use Prim.Native.Nat.{ℕ, ◌≤◌, ◌<◌}
use native.Mathlib.Omega.{arith}
use lib.ListN.{length, take, drop}
use lib.Seq.{take_at}
use lib.Dec.{ltb}
use borrow.Author.Tests.{lt-ltb, le-ltb}
use Rattle.refusal.specs.Answer.{Answer, given, absent, refused}
use Rattle.refusal.specs.Output.{output, emit}
use Rattle.laws.proofs.Tests.{by_test}
use Rattle.laws.proofs.Callers.{answers, lefts, gave_inside}
use Rattle.tlv.specs.Entries.{framing}
use Rattle.dataset_index.specs.Index.{index_bytes, index_size, built, loaded}
use Rattle.dataset_index.proofs.Slots.{index_length}
use Rattle.index_edits.specs.Edits.{by_stored, Outputs, outputs, emit_both}
use Rattle.index_edits.specs.Loops.{no_room_for, Lies, indexed}

-- ---- the check of the stored index
module _ (s x : List ℕ) (a : Answer (List ℕ)) (out ix : List ℕ) where
  pub load_stops : (n p i : ℕ) → refused n p i ≡ loaded s x → outputs (refused n p i) out ix ≡ emit_both (by_stored s x a) out ix
  unfolding emit_both by_stored
  load_stops n p i e = rw (← e)

  pub load_passes : given tt ≡ loaded s x → (b : Outputs) → b ≡ emit_both a out ix → b ≡ emit_both (by_stored s x a) out ix
  unfolding by_stored
  load_passes e b h = rw (← e) h

-- ---- an index without room: the edit's own refusals come before 11
module _ (out ix : List ℕ) (short : length ix < index_size) where
  no_index_by : (bs : List ℕ) → outputs (refused 11 0 0) out ix ≡ emit_both (given bs) out ix
  unfolding emit_both
  no_index_by bs = by_test (ltb (length out) (length bs)) (λ t. simp t) (λ t. simp (t, lt-ltb _ _ short))

  pub no_index : (a : Answer (List ℕ)) (scratch left : List ℕ) (w : Answer ℕ) → output w left ≡ emit a scratch
      → outputs (no_room_for w) out ix ≡ emit_both a out ix
  unfolding emit emit_both
  no_index (given bs) scratch left w e =
      by_test (ltb (length scratch) (length bs))
      (λ t. let k : output w left ≡ output (refused 11 0 0) scratch = e ∙ simp t in rw (answers k) (no_index_by bs))
      (λ t. let k : output w left ≡ output (given (length bs)) (bs ++ drop (length bs) scratch) = e ∙ simp t in rw (answers k) (no_index_by bs))
  no_index absent scratch left w e = rw (answers e)
  no_index (refused n p i) scratch left w e = rw (answers e)

-- ---- what an edit wrote lies within its output
pub edit_lies : (a : Answer (List ℕ)) (out left : List ℕ) (w : Answer ℕ) → output w left ≡ emit a out → Lies w left
edit_lies a out left (given n) e = gave_inside out left a n e
edit_lies a out left absent e = tt
edit_lies a out left (refused n p i) e = tt

-- ---- an index with room
module _ (out ix : List ℕ) (room : index_size ≤ length ix) where
  left_by : (bs : List ℕ) → length bs ≤ length ix → (emit (given bs) ix).left ≡ bs ++ drop (length bs) ix
  unfolding emit
  left_by bs h = simp (le-ltb _ _ h)

  fresh : (bs tail : List ℕ) → built bs ≡ given (index_bytes (framing bs).entries)
      → (emit (built (take (length bs) (bs ++ tail))) ix).left ≡ index_bytes (framing bs).entries ++ drop index_size ix
  fresh bs tail is =
      let long = index_length (framing bs).entries in
      rw (take_at bs tail (length bs) refl, is)
      (left_by (index_bytes (framing bs).entries) (omega (arith, long)) ∙ ap (λ (n : ℕ). index_bytes (framing bs).entries ++ drop n ix) long)

  pub both_left : (a : Answer (List ℕ)) (left : List ℕ) (w : Answer ℕ) → output w left ≡ emit a out
      → ((bs : List ℕ) → a ≡ given bs → built bs ≡ given (index_bytes (framing bs).entries))
      → outputs w left (indexed w left ix) ≡ emit_both a out ix
  unfolding emit emit_both
  both_left (given bs) left w e ok =
      by_test (ltb (length out) (length bs))
      (λ t. let k : output w left ≡ output (refused 11 0 0) out = e ∙ simp t in rw (answers k, lefts k) (simp t))
      (λ t.
      let k : output w left ≡ output (given (length bs)) (bs ++ drop (length bs) out) = e ∙ simp t in
      rw (answers k, lefts k, fresh bs (drop (length bs) out) (ok bs refl)) (simp (t, le-ltb _ _ room)))
  both_left absent left w e ok = rw (answers e, lefts e)
  both_left (refused n p i) left w e ok = rw (answers e, lefts e)
