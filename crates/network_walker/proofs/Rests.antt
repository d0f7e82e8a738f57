-- What stands first, and what is left after it: the bytes behind it, and none after a cut or the end.
-- Assumes nothing.
use mathlib.Core.Path.{◌≡◌, refl, sym, ap, ◌∙◌, subst}
use mathlib.Core.List.{List, []}
use Prim.Native.Nat.{ℕ, ◌+◌, ◌-◌}
use native.Mathlib.Omega.{arith}
use native.Mathlib.Nat.{sub-zero}
use lib.ListN.{length, take, drop, length-drop}
use lib.Seq.{take_all, drop-length}
use Rattle.refusal.specs.Answer.{Answer}
use Rattle.network_framing.specs.Tlvs.{Piece}
use Rattle.network_framing.specs.Frame.{sub_in, sub_answer}
use Rattle.network_framing.specs.Place.{sub_place}
use Rattle.network_walker.specs.Walker.{after, rest_of}
use Rattle.network_framing.proofs.Agrees.{sub_agrees}
use Rattle.network_framing.proofs.Walks.{Inside, inside, found, turn_inside}
use Rattle.network_framing.specs.declared.SubTlv.{SubTlv}
use Rattle.network_framing.specs.declared.SubTlv.TheVariants.{Item, Cut, End}

-- what stands from the first byte to the last
pub first_is : (s : List ℕ) (at end : ℕ) (x : Answer Piece) → x ≡ sub_in s at end → at ≡ 0 → end ≡ length s → x ≡ sub_in s 0 (length s)
first_is s at end x told a e = told ∙ ap (λ (k : ℕ). sub_in s k end) a ∙ ap (sub_in s 0) e

module _ (s : List ℕ) (r : SubTlv) (told : sub_answer r ≡ sub_in s 0 (length s)) where
  module _ (t a n : ℕ) (e : r ≡ Item t a n) where
    pub rest_item : rest_of s ≡ drop (a + n) s
    unfolding rest_of after
    rest_item = ap (after s) (sym told ∙ ap sub_answer e)

    pub item_length : length (rest_of s) ≡ length s - (a + n)
    item_length = ap length rest_item ∙ length-drop (a + n) s

  rest_cut : r ≡ Cut → rest_of s ≡ []
  unfolding rest_of after
  rest_cut e = ap (after s) (sym told ∙ ap sub_answer e)

  pub cut_length : r ≡ Cut → length (rest_of s) ≡ 0
  cut_length e = ap length (rest_cut e)

  rest_end : r ≡ End → rest_of s ≡ []
  unfolding rest_of after
  rest_end e = ap (after s) (sym told ∙ ap sub_answer e)

  pub end_length : r ≡ End → length s ≡ 0
  end_length e =
      let h = subst (Inside 0 (length s)) (sym (found s 0 (length s) r told) ∙ e) (inside s 0 (length s)) in
      omega arith

-- what is left is the end of s, as long as it is
by_length : (s : List ℕ) (r : SubTlv) → sub_answer r ≡ sub_in s 0 (length s) → drop (length s - length (rest_of s)) s ≡ rest_of s
by_length s (Item t a n) told =
    let i = turn_inside s 0 (length s) (Item t a n) told t a n refl in
    let l = item_length s (Item t a n) told t a n refl in
    let z : length s - length (rest_of s) ≡ a + n = omega arith in
    ap (λ (k : ℕ). drop k s) z ∙ sym (rest_item s (Item t a n) told t a n refl)
by_length s Cut told = rw (rest_cut s Cut told refl, sub-zero) (drop-length s)
by_length s End told = rw (rest_end s End told refl, sub-zero) (drop-length s)

pub rest_part : (s : List ℕ) (at : ℕ) → at ≡ length s - length (rest_of s) → take (length s - at) (drop at s) ≡ rest_of s
rest_part s at h =
    take_all (length s - at) (drop at s) (simp length-drop (omega arith)) ∙ ap (λ (k : ℕ). drop k s) h ∙ by_length s (sub_place s 0 (length s)) (sub_agrees s 0 (length s))
