-- The laws of what a walk has left: one operation and what is left after it, by what `operation_at` found at its place, or nothing.
-- Assumes nothing.
use mathlib.Core.Path.{◌≡◌, refl, sym, ap, ◌∙◌}
use mathlib.Core.List.{List, [], ◌∷◌}
use Prim.Native.Nat.{ℕ, ◌+◌}
use lib.ListN.{take, drop}
use Rattle.tlv.specs.Entries.{content}
use Rattle.change_lists.specs.Operations.{set, remove, op_at, Listed, ops_of}
use Rattle.change_lists.specs.Place.{op_frame_at}
use Rattle.change_lists.specs.Walk.{operations_from}
use Rattle.change_lists.specs.declared.OpFrame.{OpFrame}
use Rattle.change_lists.specs.declared.OpFrame.TheVariants as o
use Rattle.change_lists.proofs.Reading.{ops_from, ops_start}
use Rattle.change_lists.proofs.Places.{turn_end, turn_bad, removal_ops, set_ops}

left_is : (s : List ℕ) (at : ℕ) → operations_from s at ≡ (ops_from s at).ops
unfolding operations_from ops_from
left_is s at = refl

pub left_start : (s : List ℕ) → operations_from s 0 ≡ (ops_of s).ops
left_start s = left_is s 0 ∙ ap (λ (w : Listed). w.ops) (ops_start s)

module _ (s : List ℕ) (at : ℕ) (r : OpFrame) (found : r ≡ op_frame_at s at) where
  pub left_set : (t a n : ℕ) → r ≡ o.Set t a n → operations_from s at ≡ op_at at (set (content t (take n (drop a s)))) ∷ operations_from s (a + n)
  left_set t a n e = left_is s at ∙ set_ops s at r found t a n e ∙ ap (λ os. op_at at (set (content t (take n (drop a s)))) ∷ os) (sym (left_is s (a + n)))

  pub left_removal : (t : ℕ) → r ≡ o.Remove t → operations_from s at ≡ op_at at (remove t) ∷ operations_from s (at + 3)
  left_removal t e = left_is s at ∙ removal_ops s at r found t e ∙ ap (λ os. op_at at (remove t) ∷ os) (sym (left_is s (at + 3)))

  pub left_none : ((t a n : ℕ) → r ≡ o.Set t a n → ⊥) → ((t : ℕ) → r ≡ o.Remove t → ⊥) → operations_from s at ≡ []
  left_none h k = left_is s at ∙ none r found h k
    where
      none : (g : OpFrame) → g ≡ op_frame_at s at → ((t a n : ℕ) → g ≡ o.Set t a n → ⊥) → ((t : ℕ) → g ≡ o.Remove t → ⊥) → (ops_from s at).ops ≡ []
      none o.End e h k = ap (λ (w : Listed). w.ops) (turn_end s at o.End e refl)
      none o.Bad e h k = ap (λ (w : Listed). w.ops) (turn_bad s at o.Bad e refl)
      none (o.Set t a n) e h k = absurd (h t a n refl)
      none (o.Remove t) e h k = absurd (k t refl)
