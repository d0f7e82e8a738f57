-- A stored index beside the one that the dataset gives.
-- Assumes nothing.
use mathlib.Core.Path.{◌≡◌, refl, sym, ap, ◌∙◌}
use mathlib.Core.Bool.{Bool, true, false}
use mathlib.Core.List.{List, [], append-nil}
use Prim.Native.Nat.{ℕ}
use native.Mathlib.Omega.{arith}
use lib.ListN.{length, drop, drop_of_length-le}
use Rattle.refusal.specs.Answer.{pick, given, refused}
use Rattle.refusal.specs.Output.{output, emit}
use Rattle.laws.proofs.Same.{same_self, same_not}
use Rattle.laws.proofs.Answers.{gives}
use Rattle.laws.proofs.Callers.{gave, Refuses, itself, no_room, refuses}
use Rattle.tlv.specs.Limits.{framed}
use Rattle.dataset_index.specs.Index.{index_bytes, index_size, built, loaded}
use Rattle.dataset_index.proofs.Slots.{index_length}

pub built_length : (s bs : List ℕ) → built s ≡ given bs → length bs ≡ index_size
unfolding built
built_length s bs e =
    let g = gives index_bytes (framed 0 s) bs e in
    ap length (sym g.so) ∙ index_length g.one

-- what `build` left in a buffer of that size is all of it
pub fresh_is : (s out left : List ℕ) (n : ℕ) → length out ≡ index_size → output (given n) left ≡ emit (built s) out → built s ≡ given left
fresh_is s out left n size e =
    let g = gave out left (built s) n e in
    let long : length g.bytes ≡ index_size = built_length s g.bytes g.are in
    let none : drop (length g.bytes) out ≡ [] = drop_of_length-le out {i = length g.bytes} (omega arith) in
    g.are ∙ ap given (sym (g.laid ∙ rw none (append-nil g.bytes)))

module _ (s x : List ℕ) where
  -- by whether the two are the same
  pub load_judged : (left : List ℕ) (b : Bool) → built s ≡ given left → (b ≡ true → left ≡ x) → (left ≡ x → b ≡ true) → pick b (given tt) (refused 17 0 1) ≡ loaded s x
  unfolding loaded
  load_judged left true e so if = rw (e, so refl, same_self x)
  load_judged left false e so if = rw (e, same_not left x (λ h. let z = if h in let z : ◌≡◌ {A = ℕ} 0 1 = cc in omega arith))

  refused_by : (out left : List ℕ) (n p i : ℕ) → length out ≡ index_size → Refuses (built s) out left n p i → refused n p i ≡ loaded s x
  unfolding loaded
  refused_by out left n p i size (itself a l) = rw a
  refused_by out left n p i size (no_room bs a l m) = absurd (let long = built_length s bs a in omega arith)

  pub load_refused : (out left : List ℕ) (n p i : ℕ) → length out ≡ index_size → output (refused n p i) left ≡ emit (built s) out → refused n p i ≡ loaded s x
  load_refused out left n p i size e = refused_by out left n p i size (refuses out left (built s) n p i e)
