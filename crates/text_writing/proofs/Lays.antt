-- The laws of `laid`: one byte, one text after another, a loop over a text, and what a caller learns that lays its text twice, first into no room for
-- its size and then into the output.
-- Assumes nothing.
use mathlib.Core.Path.{◌≡◌, refl, sym, ap, ap₂, ◌∙◌}
use mathlib.Core.List.{List, [], ◌∷◌, ◌++◌}
use Prim.Native.Nat.{ℕ, suc, ◌+◌, ◌≤◌, ◌<◌}
use native.Mathlib.Omega.{arith}
use native.Mathlib.Nat.{add-zero, zero-add}
use native.Mathlib.Numerals.{add-one}
use lib.ListN.{length, drop, set, get_or, length-set, drop_of_length-le}
use lib.Seq.{drop-cons}
use lib.Dec.{ltb}
use borrow.Author.Tests.{lt-ltb, le-ltb, ltb-true, ltb-false}
use Rattle.refusal.specs.Answer.{Answer, given, refused}
use Rattle.refusal.specs.Output.{output, emit, put, Placed, placing}
use Rattle.laws.proofs.Tests.{by_test}
use Rattle.laws.proofs.Puts.{put_byte}
use Rattle.laws.proofs.Emits.{emit_no_room, emit_done}
use Rattle.text_writing.specs.Laid.{last_place, place_after, laid}

pub after_one : (at : ℕ) → at < last_place → at + 1 ≡ place_after at
unfolding place_after
after_one at h = simp (lt-ltb at last_place h)

pub after_last : (at : ℕ) → last_place ≤ at → at ≡ place_after at
unfolding place_after
after_last at h = simp (le-ltb at last_place h)

-- ---- one text after another

pub laid_none : (at : ℕ) (out : List ℕ) → placing at out ≡ laid at out []
unfolding laid
laid_none at out = refl

pub laid_byte : (at next : ℕ) (out left : List ℕ) (b : ℕ) → next ≡ place_after at → left ≡ set out at b → placing next left ≡ laid at out (b ∷ [])
unfolding laid
laid_byte at next out left b n l = ap₂ placing n l

laid_more : (xs ys : List ℕ) (at : ℕ) (out : List ℕ) → laid (laid at out xs).next (laid at out xs).left ys ≡ laid at out (xs ++ ys)
unfolding laid
laid_more [] ys at out = refl
laid_more (x ∷ xs) ys at out = laid_more xs ys (place_after at) (set out at x)

length_laid : (text : List ℕ) (at : ℕ) (out : List ℕ) → length (laid at out text).left ≡ length out
unfolding laid
length_laid [] at out = refl
length_laid (b ∷ bs) at out = length_laid bs (place_after at) (set out at b) ∙ length-set out at b

module _ (out left : List ℕ) (at next : ℕ) (text : List ℕ) (told : placing next left ≡ laid at out text) where
  -- and what is laid after it
  pub laid_rest : (ys : List ℕ) → laid next left ys ≡ laid at out (text ++ ys)
  laid_rest ys = ap (λ (x : Placed). laid x.next x.left ys) told ∙ laid_more text ys at out

  pub laid_length : length left ≡ length out
  laid_length = ap (λ (x : Placed). length x.left) told ∙ length_laid text at out

-- ---- a loop that lays a text byte by byte
module _ (text : List ℕ) (i : ℕ) where
  pub copy_turn : (next at : ℕ) (out left : List ℕ) → i < length text → placing next left ≡ laid at out (get_or text i 0 ∷ [])
      → laid next left (drop (i + 1) text) ≡ laid at out (drop i text)
  copy_turn next at out left h told =
      laid_rest out left at next (get_or text i 0 ∷ []) told (drop (i + 1) text)
      ∙ ap (laid at out) (rw (add-one, drop-cons text i 0 h))

  pub copy_end : (at : ℕ) (out : List ℕ) → length text ≤ i → placing at out ≡ laid at out (drop i text)
  copy_end at out h = laid_none at out ∙ ap (laid at out) (sym (drop_of_length-le text h))

-- ---- the place after a text

at_most : (text : List ℕ) (at : ℕ) (out : List ℕ) → (laid at out text).next ≤ at + length text
unfolding laid
at_most [] at out = omega arith
at_most (b ∷ bs) at out =
    by_test (ltb at last_place)
    (λ e. omega (arith, after_one at (ltb-true _ _ e), at_most bs (place_after at) (set out at b)))
    (λ e. omega (arith, after_last at (ltb-false _ _ e), at_most bs (place_after at) (set out at b)))

-- `put`, where the count does not stop
pub laid_fits : (text : List ℕ) (at : ℕ) (out : List ℕ) → at + length text ≤ last_place → laid at out text ≡ placing (at + length text) (put out at text)
unfolding laid put
laid_fits [] at out h = ap (λ (k : ℕ). placing k out) (sym (add-zero at))
laid_fits (b ∷ bs) at out h =
    let next = after_one at (omega arith) in
    let k : at + 1 + length bs ≡ at + suc (length bs) = omega arith in
    ap (λ (x : ℕ). laid x (set out at b) bs) (sym next) ∙ laid_fits bs (at + 1) (set out at b) (omega arith) ∙ rw (k, put_byte) refl

stopped : (text : List ℕ) (at : ℕ) (out : List ℕ) → at ≡ last_place → (laid at out text).next ≡ last_place
unfolding laid
stopped [] at out h = h
stopped (b ∷ bs) at out h = stopped bs (place_after at) (set out at b) (sym (after_last at (omega arith)) ∙ h)

counts : (text : List ℕ) (at : ℕ) (out : List ℕ) → at ≤ last_place → (laid at out text).next < last_place → at + length text ≤ last_place
unfolding laid
counts [] at out h k = omega arith
counts (b ∷ bs) at out h k =
    by_test (ltb at last_place)
    (λ e. let next = after_one at (ltb-true _ _ e) in
    omega (arith, counts bs (place_after at) (set out at b) (omega (arith, ltb-true)) k))
    (λ e. absurd (omega (arith, ltb-false, stopped (b ∷ bs) at out (omega (arith, ltb-false)))))

-- ---- a caller that lays its text twice: the size that it takes in no room, then the text
module _ (a : Answer (List ℕ)) (out text : List ℕ) (is : a ≡ given text) (need : ℕ) (none none' : List ℕ) (size : placing need none' ≡ laid 0 none text) where
  at_need : need ≡ (laid 0 none text).next
  at_need = ap (λ (x : Placed). x.next) size

  pub lays_no_room : length out < need → output (refused 11 0 0) out ≡ emit a out
  lays_no_room h = emit_no_room a out text is (omega (arith, at_need, at_most text 0 none))

  module _ (room : length out < last_place) (fits : need ≤ length out) where
    whole : length text ≤ last_place
    whole = omega (arith, counts text 0 none (omega arith) (omega (arith, at_need)))

    is_size : need ≡ length text
    is_size = at_need ∙ ap (λ (x : Placed). x.next) (laid_fits text 0 none (omega (arith, whole))) ∙ zero-add (length text)

    pub lays_done : (next : ℕ) (left : List ℕ) → placing next left ≡ laid 0 out text → output (given need) left ≡ emit a out
    lays_done next left told =
        let l : left ≡ put out 0 text = ap (λ (x : Placed). x.left) (told ∙ laid_fits text 0 out (omega (arith, whole))) in
        emit_done a out text is need left is_size l (omega (arith, is_size))
