-- What a program leaves of its listing of hex text (`telling`) is its text, or 11 where that has no room.
-- Assumes nothing.
use mathlib.Core.Path.{◌≡◌, refl, sym, ◌∙◌}
use mathlib.Core.List.{List}
use Prim.Native.Nat.{ℕ, ◌<◌}
use native.Mathlib.Omega.{arith}
use borrow.Author.Tests.{eq-eqb, ne_eqb}
use Rattle.std.specs.Prelude.{Result, Ok, Err}
use Rattle.refusal.specs.Answer.{Answer, given, refused}
use Rattle.refusal.specs.Output.{output, emit}
use Rattle.refusal.specs.Results.{answer_of}
use Rattle.refusal.specs.declared.Refusal.{Refusal}
use Rattle.listing.specs.Listing.{refused_line, telling, told}
use Rattle.laws.proofs.Callers.{Refuses, itself, no_room, gave, refuses}

-- a text is told as it is
told_text : (a : Answer (List ℕ)) (out text : List ℕ) → a ≡ given text → emit a out ≡ emit (given (told a)) out
unfolding told
told_text a out text e = rw e

told_refusal : (a : Answer (List ℕ)) (n p i : ℕ) → a ≡ refused n p i → told a ≡ refused_line n p
unfolding told
told_refusal a n p i e = rw e

pub telling_given : (n : ℕ) (out : List ℕ) → output (given n) out ≡ telling (given n) out
unfolding telling
telling_given n out = refl

module _ (n p i : ℕ) (out : List ℕ) where
  pub telling_eleven : n ≡ 11 → output (refused n p i) out ≡ telling (refused n p i) out
  unfolding telling
  telling_eleven h = simp (eq-eqb _ _ h)

  pub telling_other : (n ≡ 11 → ⊥) → emit (given (refused_line n p)) out ≡ telling (refused n p i) out
  unfolding telling
  telling_other h = simp (ne_eqb _ _ h)

-- a listing, which is never refused with 11
module _ (a : Answer (List ℕ)) (never : (n p i : ℕ) → a ≡ refused n p i → n < 11) (out left : List ℕ) where
  tells_given : (n : ℕ) → output (given n) left ≡ emit a out → telling (given n) left ≡ emit (given (told a)) out
  unfolding telling
  tells_given n e =
      let g = gave out left a n e in
      e ∙ told_text a out g.bytes g.are

  tells_refused : (n p i : ℕ) → output (refused n p i) left ≡ emit a out → telling (refused n p i) left ≡ emit (given (told a)) out
  tells_refused n p i e = by (refuses out left a n p i e)
    where
      by : Refuses a out left n p i → telling (refused n p i) left ≡ emit (given (told a)) out
      by (itself is kept) =
          let under = never n p i is in
          sym (telling_other n p i left (λ h. omega arith)) ∙ rw (kept, told_refusal a n p i is)
      by (no_room text is _ eleven) = sym (telling_eleven n p i left eleven) ∙ e ∙ told_text a out text is

  pub tells : (w : Result ℕ Refusal) → output (answer_of w) left ≡ emit a out → telling (answer_of w) left ≡ emit (given (told a)) out
  tells (Ok n) e = tells_given n e
  tells (Err r) e = tells_refused _ _ _ e
