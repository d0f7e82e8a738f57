-- "After a set or a remove the updated index equals the one built afresh from the edited dataset" (document 02, Seven): what an edit gives has an
-- index, which is what `emit_both` leaves beside it.
-- Assumes nothing.
use mathlib.Core.Path.{◌≡◌, refl, sym, ap, ◌∙◌}
use mathlib.Core.List.{List, ◌++◌}
use Prim.Native.Nat.{ℕ, ◌≤◌}
use native.Mathlib.Omega.{arith}
use lib.ListN.{length, take, drop}
use lib.Seq.{take_at}
use lib.Dec.{ltb}
use borrow.Author.Tests.{le-ltb, ltb-false}
use Rattle.refusal.specs.Answer.{Answer, given, absent, refused, then_do}
use Rattle.refusal.specs.Output.{output, emit}
use Rattle.refusal.specs.Every.{Bytes}
use Rattle.laws.proofs.Tests.{by_test}
use Rattle.laws.proofs.Answers.{gives}
use Rattle.tlv.specs.Entries.{Entry, Content, contents, framing}
use Rattle.tlv.specs.Limits.{framed}
use Rattle.tlv_rewriting.specs.Rewrite.{rewritten, with_set}
use Rattle.tlv_rewriting.specs.declared.Choice.{Choice}
use Rattle.dataset_edits.proofs.ReadBack.{Became, was_set, was_kept}
use Rattle.dataset_index.specs.Index.{index_bytes, index_size, built, loaded}
use Rattle.dataset_index.proofs.Slots.{index_length}
use Rattle.dataset_index.proofs.Queries.{given_are}
use Rattle.dataset_index.proofs.Meaning.{stored_loads}
use Rattle.index_edits.specs.Edits.{by_stored, Outputs, outputs, emit_both}

became_built : (f : List Content → List Content) (s bs : List ℕ) → Became f s bs → built bs ≡ given (index_bytes (framing bs).entries)
unfolding built
became_built f s bs w =
    let g = gives contents (framed 0 bs) (f w.before) w.after in
    rw g.is (ap (λ (es : List Entry). given (index_bytes es)) (sym (given_are bs g.one g.is)))

pub set_built : (t : ℕ) (v s bs : List ℕ) → with_set t v s ≡ given bs → built bs ≡ given (index_bytes (framing bs).entries)
set_built t v s bs e = became_built _ s bs (was_set t v s bs e)

pub remove_built : (c : Choice) (s bs : List ℕ) → Bytes s → rewritten c s ≡ given bs → built bs ≡ given (index_bytes (framing bs).entries)
remove_built c s bs b e = became_built _ s bs (was_kept c s bs b e)

-- so that the two that an edit leaves load, and can be edited again
pub set_loads : (t : ℕ) (v s bs : List ℕ) → with_set t v s ≡ given bs → loaded bs (index_bytes (framing bs).entries) ≡ given tt
set_loads t v s bs e = stored_loads bs _ (set_built t v s bs e)

pub remove_loads : (c : Choice) (s bs : List ℕ) → Bytes s → rewritten c s ≡ given bs → loaded bs (index_bytes (framing bs).entries) ≡ given tt
remove_loads c s bs b e = stored_loads bs _ (remove_built c s bs b e)

-- ---- and that is what the two outputs hold: where an edit answers n, the index that is left is the one built of the n bytes
apart : {G : Type 0} (a : Answer ℕ) (n : ℕ) (o i p j : List ℕ) → (a ≡ given n → ◌≡◌ {A = ℕ} 0 1) → outputs a o i ≡ outputs (given n) p j → G
apart a n o i p j never e = absurd (let z = never (ap (λ (x : Outputs). x.answer) e) in omega arith)

module _ (edit : Answer (List ℕ)) (ok : (bs : List ℕ) → edit ≡ given bs → built bs ≡ given (index_bytes (framing bs).entries)) (out ix : List ℕ) (n : ℕ) (o i : List ℕ) where
  left_is : (bs : List ℕ) → built bs ≡ given (index_bytes (framing bs).entries) → index_size ≤ length ix
      → emit (built (take (length bs) (bs ++ drop (length bs) out))) ix ≡ output (given index_size) (index_bytes (framing bs).entries ++ drop index_size ix)
  unfolding emit
  left_is bs is room =
      let long = index_length (framing bs).entries in
      let fits : length (index_bytes (framing bs).entries) ≤ length ix = omega (arith, long) in
      rw (take_at bs (drop (length bs) out) (length bs) refl, is) (rw (le-ltb _ _ fits) (rw long refl))

  updated_by : (a : Answer (List ℕ)) → edit ≡ a → emit_both a out ix ≡ outputs (given n) o i → emit (built (take n o)) ix ≡ output (given index_size) i
  unfolding emit_both
  updated_by (given bs) is e =
      by_test (ltb (length out) (length bs))
      (λ t. apart (refused 11 0 0) n out ix o i (λ z. cc) (sym (simp t) ∙ e))
      (λ t.
      by_test (ltb (length ix) index_size)
      (λ u. apart (refused 11 0 0) n out ix o i (λ z. cc) (sym (simp (t, u)) ∙ e))
      (λ u.
      let k : outputs (given (length bs)) (bs ++ drop (length bs) out) (index_bytes (framing bs).entries ++ drop index_size ix) ≡ outputs (given n) o i = sym (simp (t, u)) ∙ e in
      let count : length bs ≡ n = let z = ap (λ (x : Outputs). x.answer) k in cc in
      rw (← count, ← ap (λ (x : Outputs). x.dataset) k, ← ap (λ (x : Outputs). x.index) k) (left_is bs (ok bs is) (ltb-false _ _ u))))
  updated_by absent is e = apart absent n out ix o i (λ z. cc) e
  updated_by (refused m q j) is e = apart (refused m q j) n out ix o i (λ z. cc) e

  by_loaded : (l : Answer (Unit {0})) → emit_both (then_do l (λ (u : Unit {0}). edit)) out ix ≡ outputs (given n) o i
      → emit (built (take n o)) ix ≡ output (given index_size) i
  unfolding emit_both
  by_loaded (given u) e = updated_by edit refl e
  by_loaded absent e = apart absent n out ix o i (λ z. cc) e
  by_loaded (refused m q j) e = apart (refused m q j) n out ix o i (λ z. cc) e

module _ (s x out ix : List ℕ) (n : ℕ) (o i : List ℕ) where
  pub set_updated : (t : ℕ) (v : List ℕ) → emit_both (by_stored s x (with_set t v s)) out ix ≡ outputs (given n) o i
      → emit (built (take n o)) ix ≡ output (given index_size) i
  unfolding by_stored
  set_updated t v e = by_loaded (with_set t v s) (set_built t v s) out ix n o i (loaded s x) e

  pub remove_updated : (c : Choice) → Bytes s → emit_both (by_stored s x (rewritten c s)) out ix ≡ outputs (given n) o i
      → emit (built (take n o)) ix ≡ output (given index_size) i
  unfolding by_stored
  remove_updated c b e = by_loaded (rewritten c s) (λ bs h. remove_built c s bs b h) out ix n o i (loaded s x) e
