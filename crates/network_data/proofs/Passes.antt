-- The laws of the checks: one TLV more, passed or refused, and the end.
-- Assumes nothing.
use mathlib.Core.Path.{◌≡◌, refl, sym, ap}
use mathlib.Core.List.{List}
use Prim.Native.Nat.{ℕ, ◌+◌}
use borrow.Author.Tests.{eq-eqb, ne_eqb}
use Rattle.refusal.specs.Answer.{Answer, given, refused, then_do}
use Rattle.network_framing.specs.Tlvs.{Walk, clean, short, done, onto, Piece}
use Rattle.network_data.specs.Rules.{rule, ended, rules, check_in, check_prefix, values, check_from}
use Rattle.network_data.specs.declared.Counts.{Counts}

pub then_given : {A B : Type 0} (f : A → Answer B) (a : Answer A) (d : A) → given d ≡ a → then_do a f ≡ f d
then_given f a d e = ap (λ (x : Answer _). then_do x f) (sym e)

pub then_refused : {A B : Type 0} (f : A → Answer B) (a : Answer A) (n p i : ℕ) → refused n p i ≡ a → then_do a f ≡ refused n p i
then_refused f a n p i e = ap (λ (x : Answer _). then_do x f) (sym e)

module _ (p : ℕ) (c : Counts) where
  pub in_end : check_in p c (done clean) ≡ given c
  unfolding check_in rules ended
  in_end = refl

  pub in_cut : check_in p c (done short) ≡ refused 5 p 0
  unfolding check_in rules ended
  in_cut = refl

  module _ (e : Piece) (w : Walk) where
    pub in_more : (d : Counts) → given d ≡ rule p c e.ty e.len → check_in p c (onto e w) ≡ check_in p d w
    unfolding check_in rules
    in_more d h = then_given (λ (x : Counts). rules p x w.stop w.items) (rule p c e.ty e.len) d h

    pub in_refused : (n q i : ℕ) → refused n q i ≡ rule p c e.ty e.len → check_in p c (onto e w) ≡ refused n q i
    unfolding check_in rules
    in_refused n q i h = then_refused (λ (x : Counts). rules p x w.stop w.items) (rule p c e.ty e.len) n q i h

  module _ (s : List ℕ) where
    pub out_end : check_from p s c (done clean) ≡ given c
    unfolding check_from values ended
    out_end = refl

    pub out_cut : check_from p s c (done short) ≡ refused 5 p 0
    unfolding check_from values ended
    out_cut = refl

    module _ (e : Piece) (w : Walk) where
      pub out_skip : (e.ty ≡ 1 → ⊥) → check_from p s c (onto e w) ≡ check_from p s c w
      unfolding check_from values
      out_skip h = simp (ne_eqb _ _ h)

      pub out_more : e.ty ≡ 1 → (d : Counts) → given d ≡ check_prefix p s c e.start (e.start + e.len) → check_from p s c (onto e w) ≡ check_from p s d w
      unfolding check_from values
      out_more t d h = simp (eq-eqb _ _ t, sym h)

      pub out_refused : e.ty ≡ 1 → (n q i : ℕ) → refused n q i ≡ check_prefix p s c e.start (e.start + e.len) → check_from p s c (onto e w) ≡ refused n q i
      unfolding check_from values
      out_refused t n q i h = simp (eq-eqb _ _ t, sym h)
