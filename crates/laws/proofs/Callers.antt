-- What the caller of a writer learns, whose contract is `output (answer_of r) left ≡ emit a out`: by what r is.
-- Assumes nothing.
use mathlib.Core.Path.{◌≡◌, refl, sym, ap, ◌∙◌}
use mathlib.Core.List.{List, ◌++◌}
use Prim.Native.Nat.{ℕ, ◌≤◌, ◌<◌}
use native.Mathlib.Omega.{arith}
use lib.ListN.{length, length-append, take, drop}
use lib.Seq.{take-append_seam}
use lib.Dec.{ltb}
use borrow.Author.Tests.{ltb-true}
use Rattle.refusal.specs.Answer.{Answer, given, absent, refused}
use Rattle.refusal.specs.Output.{Output, output, emit}
use Rattle.laws.proofs.Tests.{by_test}

-- n bytes are written: they are all that is given, at the start of the output
pub record Gave (a : Answer (List ℕ)) (out left : List ℕ) (n : ℕ) : Type 0 where
  pub bytes : List ℕ
  pub are : a ≡ given bytes
  pub count : n ≡ length bytes
  pub laid : left ≡ bytes ++ drop (length bytes) out

-- a refusal: the answer itself, or 11; nothing is written
pub data Refuses (a : Answer (List ℕ)) (out left : List ℕ) (n p i : ℕ) : Type 0 where
  itself : a ≡ refused n p i → left ≡ out → Refuses a out left n p i
  no_room : (bytes : List ℕ) → a ≡ given bytes → length out < length bytes → n ≡ 11 → Refuses a out left n p i

module _ {x y : Answer ℕ} {l m : List ℕ} (same : output x l ≡ output y m) where
  pub answers : x ≡ y
  answers = ap (λ (o : Output). o.answer) same

  pub lefts : l ≡ m
  lefts = ap (λ (o : Output). o.left) same

  -- two answers that cannot be the same
  apart : {G : Type 0} → (x ≡ y → ◌≡◌ {A = ℕ} 0 1) → G
  apart never = absurd (let z = never answers in omega arith)

module _ (out left : List ℕ) where
  pub gave : (a : Answer (List ℕ)) (n : ℕ) → output (given n) left ≡ emit a out → Gave a out left n
  unfolding emit
  gave (given bs) n e =
      by_test (ltb (length out) (length bs))
      (λ t. let same : output (given n) left ≡ output (refused 11 0 0) out = e ∙ simp t in
      apart same (λ r. cc))
      (λ t. let same : output (given n) left ≡ output (given (length bs)) (bs ++ drop (length bs) out) = e ∙ simp t in
      let count = answers same in
      record { bytes = bs; are = refl; count = cc; laid = lefts same })
  gave absent n e = apart e (λ r. cc)
  gave (refused m q j) n e = apart e (λ r. cc)

  -- what is given are the first n bytes of what is left
  pub gave_front : (a : Answer (List ℕ)) (n : ℕ) → output (given n) left ≡ emit a out → a ≡ given (take n left)
  gave_front a n e =
      let g = gave a n e in
      g.are ∙ ap given (sym (ap (λ (k : ℕ). take k left) g.count ∙ ap (take (length g.bytes)) g.laid ∙ take-append_seam g.bytes _))

  pub gave_inside : (a : Answer (List ℕ)) (n : ℕ) → output (given n) left ≡ emit a out → n ≤ length left
  gave_inside a n e =
      let g = gave a n e in
      omega (arith, ap length g.laid ∙ length-append g.bytes _)

  pub refuses : (a : Answer (List ℕ)) (n p i : ℕ) → output (refused n p i) left ≡ emit a out → Refuses a out left n p i
  unfolding emit
  refuses (given bs) n p i e =
      by_test (ltb (length out) (length bs))
      (λ t. let same : output (refused n p i) left ≡ output (refused 11 0 0) out = e ∙ simp t in
      let eleven = answers same in
      no_room bs refl (ltb-true _ _ t) (cc))
      (λ t. let same : output (refused n p i) left ≡ output (given (length bs)) (bs ++ drop (length bs) out) = e ∙ simp t in
      apart same (λ r. cc))
  refuses absent n p i e = apart e (λ r. cc)
  refuses (refused m q j) n p i e = let same = answers e in itself (cc) (lefts e)

  -- a refused call has changed nothing
  pub refused_keeps : (a : Answer (List ℕ)) (n p i : ℕ) → output (refused n p i) left ≡ emit a out → left ≡ out
  unfolding emit
  refused_keeps (given bs) n p i e =
      by_test (ltb (length out) (length bs))
      (λ t. let same : output (refused n p i) left ≡ output (refused 11 0 0) out = e ∙ simp t in
      lefts same)
      (λ t. let same : output (refused n p i) left ≡ output (given (length bs)) (bs ++ drop (length bs) out) = e ∙ simp t in
      apart same (λ r. cc))
  refused_keeps absent n p i e = apart e (λ r. cc)
  refused_keeps (refused m q j) n p i e = lefts e
