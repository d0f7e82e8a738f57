-- The laws of `emit`, one for each return of a writer (a refusal, no room, the bytes written), and those of `placed`.
-- Assumes nothing.
use mathlib.Core.Path.{◌≡◌, ap, ◌∙◌}
use mathlib.Core.List.{List}
use Prim.Native.Nat.{ℕ, ◌+◌, ◌≤◌, ◌<◌}
use lib.ListN.{length}
use borrow.Author.Tests.{lt-ltb, le-ltb, le-leb, lt-leb}
use Rattle.refusal.specs.Answer.{Answer, given, refused}
use Rattle.refusal.specs.Output.{output, emit, put, Placed, placing, placed}
use Rattle.laws.proofs.Puts.{put_start}

module _ (a : Answer (List ℕ)) (out : List ℕ) where
  pub emit_refused : (n p i : ℕ) → refused n p i ≡ a → output (refused n p i) out ≡ emit a out
  unfolding emit
  emit_refused n p i e = rw (← e)

  module _ (bs : List ℕ) (e : a ≡ given bs) where
    pub emit_no_room : length out < length bs → output (refused 11 0 0) out ≡ emit a out
    unfolding emit
    emit_no_room h = rw e (simp (lt-ltb _ _ h))

    pub emit_done : (n : ℕ) (left : List ℕ) → n ≡ length bs → left ≡ put out 0 bs → length bs ≤ length out → output (given n) left ≡ emit a out
    unfolding emit
    emit_done n left k l h = rw (e, k, l) (simp (le-ltb _ _ h, put_start out bs h))

module _ (bs : List ℕ) (at : ℕ) (out : List ℕ) where
  pub placed_fits : at + length bs ≤ length out → placed bs at out ≡ placing (at + length bs) (put out at bs)
  unfolding placed
  placed_fits h = simp (le-leb _ _ h)

  pub placed_not : length out < at + length bs → placed bs at out ≡ placing at out
  unfolding placed
  placed_not h = simp (lt-leb _ _ h)

  -- what a caller with room learns of a shared writer
  module _ (next : ℕ) (left : List ℕ) (told : placing next left ≡ placed bs at out) (fits : at + length bs ≤ length out) where
    pub placed_next : next ≡ at + length bs
    placed_next = ap (λ (x : Placed). x.next) (told ∙ placed_fits fits)

    pub placed_left : left ≡ put out at bs
    placed_left = ap (λ (x : Placed). x.left) (told ∙ placed_fits fits)
